use Rattle.std.proofs.Common.{◌<◌, ◌+◌, ◌++◌, [], ℕ, List, None, append-nil, get_or, length, subst, sym, take}
use Rattle.std.proofs.lemmas.List.{take_all}
use Rattle.std.specs.Option.{option_to_list}
use Rattle.span_times.specs.declared.happening.Happening.TheVariants.{Opened}
use Rattle.span_times.specs.declared.happening.Point.{Point}
use Rattle.span_timing.proofs.Noted.{events_more, lives_more, noted_behind}
use Rattle.span_timing.proofs.timing.Timing.note_all.Goals as goal
use Rattle.span_timing.specs.Life.{event_sent, events_of, life_ended, lives_of}
use Rattle.span_timing.specs.Timing.{IsTimingOf}
use Rattle.span_timing.specs.declared.life.Life.{Life}

pub loop-place-preserved : goal.loop-place-preserved
loop-place-preserved c = λ lives sent was.
    let ps = c.args.points.now in
    let i = c.loop-place.place in
    let within : i < length ps = c.loop-place-test.true in
    let none : Point = record { time = 0; lane = record { 0 = 0 }; what = Opened (record { number = 0 }) 0 None; fields = record { from = 0; to = 0 } } in
    let what = (get_or ps i none).what in
    let some = lives_of (take i ps) in
    let few = events_of (take i ps) in
    let now = c.in_ok-note.ensures (lives ++ some) (sent ++ few) (c.loop-place.invariant lives sent was) in
    noted_behind lives some (option_to_list (life_ended (take (i + 1) ps) what)) (lives_of (take (i + 1) ps))
    sent few (option_to_list (event_sent what)) (events_of (take (i + 1) ps)) c.note.new.self
    (lives_more ps i none within) (events_more ps i none within) now

pub returns : goal.returns
returns c = λ lives sent was.
    let P : List Point → Type 0 = λ qs. IsTimingOf (lives ++ lives_of qs) (sent ++ events_of qs) c.loop-place.self in
    subst P (take_all c.loop-place.place c.args.points.now c.loop-place-test.false) (c.loop-place.invariant lives sent was)

pub loop-place-init : goal.loop-place-init
loop-place-init c = λ lives sent was.
    let P : List Life → Type 0 = λ ls. IsTimingOf ls (sent ++ []) c.args.self.now in
    let Q : List ℕ → Type 0 = λ es. IsTimingOf lives es c.args.self.now in
    subst P (sym (append-nil lives)) (subst Q (sym (append-nil sent)) was)
