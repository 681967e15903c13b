use Rattle.std.proofs.Common.{[], ap, map}
use Rattle.span_core.specs.Span.{number_of}
use Rattle.span_registry.proofs.CallerLemmas.{closing_now, drops_closing, drops_open, settled_closing, settled_same, settled_still}
use Rattle.span_examples.proofs.drop_span.Goals as goal

pub close_all-requires : goal.close_all-requires
close_all-requires c = closing_now c.in_ok-release.ensures.released c.in-Closing.is

pub returns-in-StillOpen-clause-closed : goal.returns-in-StillOpen-clause-closed
returns-in-StillOpen-clause-closed c =
    ([], drops_open c.in_ok-release.ensures.forest c.requires c.in_ok-release.ensures.released c.in-StillOpen.is, ap (map number_of) c.new.ensures.items)

pub returns-in-StillOpen-clause-settled : goal.returns-in-StillOpen-clause-settled
returns-in-StillOpen-clause-settled c = settled_still c.requires c.in_ok-release.ensures.released c.in-StillOpen.is

pub returns-in-Closing-clause-closed : goal.returns-in-Closing-clause-closed
returns-in-Closing-clause-closed c =
    let h = c.close_all.ensures in
    (h.0, drops_closing c.in_ok-release.ensures.forest c.requires c.in_ok-release.ensures.released c.in-Closing.is h.1, h.2)

pub returns-in-Closing-clause-settled : goal.returns-in-Closing-clause-settled
returns-in-Closing-clause-settled c =
    settled_closing c.in_ok-release.ensures.forest c.requires c.in_ok-release.ensures.released c.in-Closing.is c.close_all.ensures.1

pub returns-in_err-release-clause-settled : goal.returns-in_err-release-clause-settled
returns-in_err-release-clause-settled c = settled_same c.in_err-release.ensures.unchanged c.requires
