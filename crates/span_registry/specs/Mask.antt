-- A mask: the filters that one looks under.
use Rattle.span_core.specs.Filters.{FilterSet, has_filter}
use Rattle.span_registry.specs.declared.mask.Mask.{Mask}

-- the filters of a mask
abbrev pub filters_of : Mask → FilterSet
filters_of m = has_filter m.filters
