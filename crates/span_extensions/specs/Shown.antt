-- What a shared view of a span's extensions shows.
use Rattle.span_extensions.specs.Extensions.{ExtensionMap}
use Rattle.span_extensions.specs.declared.extensions.Extensions.{Extensions}

-- the values that a shared view shows
abbrev pub shown_map : Extensions → ExtensionMap
shown_map e = e.map.now
