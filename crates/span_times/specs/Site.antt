-- What callsites are called.
use Rattle.std.specs.Prelude.{◌≡◌, ◌==◌, ℕ, Bool, if◌then◌else◌, List, [], ◌∷◌, ◌++◌, Option, None, Some, map, string_bytes}
use Rattle.std.specs.BTreeSet.{BTreeSet, contains}
use Rattle.std.specs.List.{list_any}
use Rattle.std.specs.Ordering.{nat_cmp}
use Rattle.span_core.specs.Metadata.{callsite_of, level_of, name_of, target_of}
use Rattle.span_core.specs.declared.level.Level.{Level}
use Rattle.span_core.specs.declared.metadata.Metadata.{Metadata}
use Rattle.span_times.specs.declared.site.Site.{Site}

-- what a site says of its callsite
pub record SiteSaid : Type 0 where
  pub callsite : ℕ
  pub level : Level
  pub name : List ℕ
  pub target : List ℕ

-- what a site says
abbrev pub site_said : Site → SiteSaid
site_said s = record {
  callsite = s.callsite;
  level = s.level;
  name = string_bytes s.name;
  target = string_bytes s.target;
}

-- what sites say, in their order
abbrev pub sites_said : List Site → List SiteSaid
sites_said sites = map site_said sites

-- what metadata say of their callsite
abbrev pub site_of : Metadata → SiteSaid
site_of m = record {
  callsite = callsite_of m;
  level = level_of m;
  name = name_of m;
  target = target_of m;
}

-- whether one of the sites has this number
abbrev pub has_site : List SiteSaid → ℕ → Bool
has_site sites n = list_any (λ s. s.callsite == n) sites

-- a set has just the numbers of these sites
abbrev pub AreNumbersOf : BTreeSet ℕ → List SiteSaid → Type 0
AreNumbersOf numbers sites = (n : ℕ) → contains nat_cmp numbers n ≡ has_site sites n

-- the sites, and behind them that of these metadata, if there are any, unless one has their number
abbrev pub with_site : Option Metadata → List SiteSaid → List SiteSaid
with_site None sites = sites
with_site (Some m) sites =
    if has_site sites (callsite_of m) then sites else sites ++ site_of m ∷ []
