use Rattle.std.proofs.Common.{subst}
use Rattle.span_layers.specs.Observe.{observer_of}
use Rattle.span_fmt.specs.Stream.{form_of}
use Rattle.span_format.proofs.Told.{lines_given}
use Rattle.span_format.specs.Written.{Grows}
use Rattle.span_format.proofs.laws.a_format_is_written_as_it_is_given.Goals as goal

pub returns : goal.returns
returns g c = λ x y heard told none.
    let whole = (c.a_stream_writes_what_it_is_told.ensures x y heard told).whole none.0 none.2 none.1 in
    let given = lines_given (form_of (observer_of x)) (form_of (observer_of y)) heard whole.0 whole.1 in
    subst (Grows g.W.Write.contents (observer_of x) (observer_of y)) given.0 whole.2
