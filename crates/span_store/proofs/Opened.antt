-- What opening a span leaves of the registry.
use Rattle.std.proofs.Common.{◌≡◌, ℕ, ◌<◌, Option, Some, None, IfSome, false, sym, ap, subst, ◌∙◌, arith}
use Rattle.std.specs.FinMap.{entries, get, insert}
use Rattle.std.specs.FinSet.{contains, insert as add}
use Rattle.std.specs.Option.{IsSomeAnd, option_map}
use Rattle.span_core.specs.Span.{number_of}
use Rattle.span_core.specs.declared.span.Id.{Id}
use Rattle.span_core.specs.declared.span.Lane.{Lane}
use Rattle.span_core.specs.declared.span.Parent.{Parent}
use Rattle.span_extensions.proofs.NumberMaps.{get_beside_inserted}
use Rattle.span_extensions.specs.Extensions.{no_values}
use Rattle.span_store.proofs.Added.{Added, added_child, added_root, chosen_there, parent_record}
use Rattle.span_store.proofs.Counts.{children_at, len_kept}
use Rattle.span_store.proofs.Kept.{Records, get_spans}
use Rattle.span_store.proofs.Entries.{at_is}
use Rattle.span_store.proofs.Removed.{at_some}
use Rattle.span_store.specs.private.StoreRepr.{HasNoRoom, HasNoneReserved, HasRoom, Inserts, IsKept, KeptSpans, more}
use Rattle.span_store.specs.Data.{span_of}
use Rattle.span_store.specs.private.State.{state_of}
use Rattle.span_store.specs.Step.{AskedSpan, FindsParent, HasNoPlaceReserved, HasPlace, IsParentFor, Opens, begun, with_span}
use Rattle.span_store.specs.Store.{RegistryState, child_count}
use Rattle.span_store.specs.declared.registry.Registry.TheInside.{Inside}
use Rattle.span_store.specs.declared.span_record.SpanRecord.{SpanRecord}

-- the record of a new span
abbrev pub new_record : AskedSpan → Option Id → SpanRecord
new_record span parent = record { metadata = span.metadata; parent = parent; handles = 1; children = 0; verdict = span.verdict }

-- a chosen parent has a record
pub recorded : (a : Inside) (now : RegistryState) (lane : Lane) (asked : Parent) (o : Option Id) → state_of a ≡ now
    → IsParentFor now.store lane asked (option_map number_of o) → IfSome (option_map number_of o) (λ p. (r : SpanRecord) × (get (a.spans).records p ≡ Some r))
recorded a now lane asked o v chosen =
    let here = subst (λ (s : RegistryState). IsParentFor s.store lane asked (option_map number_of o)) (sym v) chosen in
    parent_record (a.spans).records (option_map number_of o) (chosen_there (state_of a).store lane asked (option_map number_of o) here)

-- a parent with room for a child more counts fewer children than the limit
pub below : (a : Inside) (now : RegistryState) (p : ℕ) (u : SpanRecord) → state_of a ≡ now → IsKept (entries (a.spans).records)
    → get (a.spans).records p ≡ Some u → child_count now.store.spans p < now.limits.count → u.children < (a.spans).limits.count
below a now p u v h f room =
    let l : child_count (state_of a).store.spans p < (a.spans).limits.count =
    subst (λ (s : RegistryState). child_count s.store.spans p < s.limits.count) (sym v) room in
    let c = children_at (entries (a.spans).records) p u h (at_is (a.spans).records p ∙ f) in
    omega (arith, l, c)

-- the room of what is kept is the registry's
pub place : (a : Inside) (now : RegistryState) → state_of a ≡ now → HasRoom a.spans → HasPlace now
place a now v h = subst HasPlace v (record {
  place = (let l = h.place in let k = len_kept (a.spans).records in omega arith);
  id = h.id;
})

-- and where memory is held for no span more there, it is held for none in the registry
pub none_reserved : (a : Inside) (now : RegistryState) → state_of a ≡ now → HasNoneReserved a.spans → HasNoPlaceReserved now
none_reserved a now v h = subst HasNoPlaceReserved v (let k = len_kept (a.spans).records in omega arith)

pub no_place : (a : Inside) (now : RegistryState) → state_of a ≡ now → HasNoRoom a.spans → ¬ (HasPlace now)
no_place a now v h = subst (λ s. ¬ (HasPlace s)) v (λ p. let k = len_kept (a.spans).records in let l = p.place in omega arith)

-- what was put in under a new id, and counted by its parent
pub record Grows (a : Inside) (id : Id) (r : SpanRecord) (new : KeptSpans) : Type 0 where
  pub added : Added (a.spans).records new.records (number_of id) r
  pub rest : new ≡ record a.spans
      { records = new.records; extensions = insert (a.spans).extensions (number_of id) no_values; issued = add (a.spans).issued (number_of id) }

pub grows_root : (a : Inside) (id : Id) (r : SpanRecord) (mid : KeptSpans)
    → IsKept (entries (a.spans).records) → Inserts id r a.spans mid → r.children ≡ 0 → r.parent ≡ None → Grows a id r mid
grows_root a id r mid h i z e =
    let records : mid.records ≡ insert (a.spans).records (number_of id) r = ap (λ (k : KeptSpans). k.records) i.state in
    record {
      added = subst (λ (m : Records). Added (a.spans).records m (number_of id) r) (sym records) (added_root (a.spans).records (number_of id) r h i.unused z e);
      rest = i.state ∙ ap (λ (m : Records). record a.spans
          { records = m; extensions = insert (a.spans).extensions (number_of id) no_values; issued = add (a.spans).issued (number_of id) }) (sym records);
    }

-- the parent is there still
pub above_there : (a : Inside) (id p : Id) (r u : SpanRecord) (mid : KeptSpans)
    → Inserts id r a.spans mid → get (a.spans).records (number_of p) ≡ Some u → get mid.records (number_of p) ≡ Some u
above_there a id p r u mid i f =
    ap (λ (k : KeptSpans). get k.records (number_of p)) i.state
    ∙ get_beside_inserted (a.spans).records
    (number_of id) (number_of p) r (λ same. let both : None ≡ Some u = sym i.unused ∙ ap (get (a.spans).records) same ∙ f in let no : ⊥ = cc in no) ∙ f

pub grows_child : (a : Inside) (id p : Id) (r u : SpanRecord) (mid new : KeptSpans)
    → IsKept (entries (a.spans).records) → Inserts id r a.spans mid → r.children ≡ 0 → r.parent ≡ Some p → get (a.spans).records (number_of p) ≡ Some u
    → IsSomeAnd (get mid.records (number_of p)) (λ w. new ≡ record mid { records = insert mid.records (number_of p) (more w) }) → Grows a id r new
grows_child a id p r u mid new h i z e f wrote =
    let is : new ≡ record mid { records = insert mid.records (number_of p) (more u) } =
    at_some (λ w. new ≡ record mid { records = insert mid.records (number_of p) (more w) })
    (get mid.records (number_of p)) u (above_there a id p r u mid i f) wrote in
    let both : new ≡ record a.spans {
      records = insert (insert (a.spans).records (number_of id) r) (number_of p) (more u);
      extensions = insert (a.spans).extensions (number_of id) no_values;
      issued = add (a.spans).issued (number_of id);
    } =
    is ∙ ap (λ (k : KeptSpans). record k { records = insert k.records (number_of p) (more u) }) i.state in
    let records : new.records ≡ insert (insert (a.spans).records (number_of id) r) (number_of p) (more u) = ap (λ (k : KeptSpans). k.records) both in
    record {
      added = subst (λ (m : Records). Added (a.spans).records m (number_of id) r)
          (sym records) (added_child (a.spans).records (number_of id) r u p h i.unused z e f);
      rest = both ∙ ap (λ (m : Records). record a.spans
          { records = m; extensions = insert (a.spans).extensions (number_of id) no_values; issued = add (a.spans).issued (number_of id) }) (sym records);
    }

pub opened : (a : Inside) (mid new : KeptSpans) (now : RegistryState) (lane : Lane) (span : AskedSpan) (o : Option Id) (id : Id)
    → state_of a ≡ now → IsKept (entries (a.spans).records) → FindsParent now lane span.parent (option_map number_of o)
    → HasRoom a.spans
    → Inserts id (new_record span o) a.spans mid → Grows a id (new_record span o) new → Opens lane span id now (state_of (record a { spans = new }))
opened a mid new now lane span o id v h finds room i g =
    let before : RegistryState = state_of a in
    let x : ℕ = number_of id in
    let state : state_of (record a { spans = new }) ≡ with_span before x (begun span (option_map number_of o)) =
    ap (λ (k : KeptSpans). state_of (record a { spans = k })) g.rest ∙ (λ j. record before
    { store = record before.store { spans = (g.added).spans j; extensions = insert (a.spans).extensions x no_values; issued = add (a.spans).issued x } }) in
    record {
      parent = option_map number_of o;
      finds = finds;
      place = place a now v room;
      fresh = subst (λ (s : RegistryState). contains s.store.issued x ≡ false) v i.fresh;
      other = λ e. absurd (let l = i.other in omega arith);
      unused = subst (λ (s : RegistryState). get s.store.spans x ≡ None)
          v (get_spans (entries (a.spans).records) x ∙ ap (option_map span_of) (at_is (a.spans).records x ∙ i.unused));
      state = state ∙ ap (λ (s : RegistryState). with_span s x (begun span (option_map number_of o))) v;
    }
