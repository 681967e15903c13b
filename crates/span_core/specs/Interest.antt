-- Sums of interests.
use Rattle.std.specs.Prelude.{Option, None, Some}
use Rattle.span_core.specs.declared.interest.Interest.{Interest}
use Rattle.span_core.specs.declared.interest.Interest.TheVariants.{Never, Sometimes, Always}

-- the sum of two interests: the interest itself where they are equal, else sometimes
abbrev pub sum_of : Interest → Interest → Interest
sum_of Never Never = Never
sum_of Always Always = Always
sum_of _ _ = Sometimes

-- a sum with one interest more: the first interest is taken as it is
abbrev pub sum_with : Option Interest → Interest → Interest
sum_with None i = i
sum_with (Some sum) i = sum_of sum i
