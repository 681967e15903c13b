-- The sites that were kept.
use Rattle.std.specs.Prelude.{List}
use Rattle.span_times.specs.Site.{SiteSaid, sites_said}
use Rattle.span_times.specs.declared.site.Sites.{Sites}

-- what is kept, by the first use of the callsites
abbrev pub kept_by : Sites → List SiteSaid
kept_by x = sites_said x.sites.items
