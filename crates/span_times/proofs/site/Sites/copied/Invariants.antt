use Rattle.std.proofs.Common.{◌≡◌, ◌++◌, drop}
use Rattle.span_times.specs.Site.{sites_said}
use Rattle.span_times.specs.Sites.{kept_by}
use Rattle.span_times.proofs.site.Sites.copied.Given as goal

-- the copies so far and those of the sites to come are all
abbrev pub invariant-loop-site : goal.invariant-loop-site
invariant-loop-site l = sites_said l.copies.items ++ sites_said (drop l.site-index l.site-items) ≡ kept_by l.self
