-- Stores that a path of filters can't tell apart: they differ in extensions, and in what other
-- filters' verdicts say.
use Rattle.std.specs.Prelude.{◌≡◌, ℕ, ◌&&◌, IsTrue, Option, Some}
use Rattle.std.specs.Option.{option_map}
use Rattle.std.specs.FinMap.{empty, get}
use Rattle.span_core.specs.Filters.{FilterSet, refuses}
use Rattle.span_core.specs.declared.metadata.Metadata.{Metadata}
use Rattle.span_store.specs.Store.{Span, Store}

-- what of a span makes a difference to these filters: its metadata, its parent, and which of them
-- refused it, as they are shown it; and its handles, since by these it closes
abbrev pub known_to : FilterSet → Span → Metadata × Option ℕ × ℕ × FilterSet
known_to numbers r = (r.metadata, r.parent, r.handles, λ n. numbers n && refuses r.verdict n)

-- the two stores have the same spans, as far as that goes, ids issued and stacks; of extensions
-- nothing is said
pub record AgreeAt (numbers : FilterSet) (s t : Store) : Type 0 where
  pub spans : (x : ℕ)
      → option_map (known_to numbers) (get s.spans x)
      ≡ option_map (known_to numbers) (get t.spans x)
  pub issued : s.issued ≡ t.issued
  pub stacks : s.stacks ≡ t.stacks

-- the second store is the first cut down to these filters: no other is in a verdict, and there are
-- no extensions
pub record IsCutDown (numbers : FilterSet) (s t : Store) : Type 0 where
  pub agree : AgreeAt numbers s t
  pub verdicts : (x : ℕ) (r : Span) (n : ℕ) → get t.spans x ≡ Some r → IsTrue (refuses r.verdict n)
      → IsTrue (numbers n)
  pub extensions : t.extensions ≡ empty
