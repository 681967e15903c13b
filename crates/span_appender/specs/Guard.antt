-- The guard of a thread that writes lines.
use Rattle.rtrb.specs.Ring.{IsPair}
use Rattle.span_appender.specs.declared.guard.WorkerGuard.{WorkerGuard}
use Rattle.span_appender.specs.declared.non_blocking.NonBlocking.{NonBlocking}

-- a guard's thread takes the lines of this writer
abbrev pub IsGuardOf : {W R : Type 0} → WorkerGuard W R → NonBlocking → Type 0
IsGuardOf guard lines = IsPair lines.queue guard.thread.promise.0.value.queue

-- the writer that the thread was given, as it was then
abbrev pub first_writer : {W R : Type 0} → WorkerGuard W R → W
first_writer guard = guard.thread.promise.0.value.writer
