-- Parents, the roots that chains of them end at, and the ids that scopes give.
use Rattle.std.proofs.Common.{◌≡◌, ℕ, false, List, [], ◌∷◌, ◌++◌, map, reverse, Option, Some, None, IfSome, IsSome, Result, Ok, Err, IfOk, refl, sym, ap, subst}
use Rattle.std.proofs.Common.{◌∙◌}
use Rattle.std.proofs.lemmas.List.{map-append, reverse-append}
use Rattle.std.specs.FinMap.{get}
use Rattle.std.specs.List.{last_or}
use Rattle.std.specs.Option.{option_and_then, option_map}
use Rattle.span_core.specs.Filters.{FilterSet}
use Rattle.span_core.specs.Span.{number_of}
use Rattle.span_core.specs.declared.error.TraceError.{TraceError}
use Rattle.span_core.specs.declared.span.Id.{Id}
use Rattle.span_core.specs.declared.span.Lane.{Lane}
use Rattle.span_store.specs.Data.{FindsData, data_span}
use Rattle.span_store.specs.Step.{Enters, Exits, entered, exited}
use Rattle.span_store.specs.Store.{IsChain, IsInStore, IsOpen, RegistryState, Span, Spans, Store, parent_of}
use Rattle.span_store.specs.declared.span_data.Data.{Data}
use Rattle.span_registry.specs.Law.{ChainEndsAtRoot, RestoresStacks}
use Rattle.span_registry.specs.References.{FindsSpan, Reference, Reverses, reference_to, scope_of_reference, span_of_reference, to_give}
use Rattle.span_registry.specs.View.{IsDescent}
use Rattle.span_registry.specs.declared.scope.Scope.{Scope}
use Rattle.span_registry.specs.declared.scope.ScopeFromRoot.{ScopeFromRoot}
use Rattle.span_registry.specs.declared.scope.SpanRef.{SpanRef}
use Rattle.span_registry.proofs.CallerLemmas.{scope_found}
use Rattle.span_examples.specs.Law.{GivesFromRoot, IsRootAbove, LeadsDownTo}
use Rattle.span_examples.specs.Uses.{IsChainOf}

-- a lane enters a span and leaves it
pub restored : (lane : Lane) (id : Id) (old mid new : RegistryState) → ((s : Store) (n x : ℕ) → RestoresStacks s (exited (entered s n x) n x))
    → Enters lane id old mid → Exits lane id mid new → RestoresStacks old.store new.store
restored lane id old mid new law h k =
    let n = lane.0 in
    let x = number_of id in
    let both : new.store ≡ exited (entered old.store n x) n x =
    ap (λ (s : RegistryState). s.store) k ∙ ap (λ (s : RegistryState). exited s.store n x) h.state in
    subst (RestoresStacks old.store) (sym both) (law old.store n x)

-- the parent that the data of a span show
pub parent_found : (s : Store) (id : Id) (found : Option Data) (d : Data)
    → FindsData s id found → found ≡ Some d → (data_span d).parent ≡ parent_of s.spans (number_of id)
parent_found s id found d h e =
    ap (λ (o : Option Data). option_and_then (λ (r : Span). r.parent) (option_map data_span o)) (sym e) ∙ ap (option_and_then (λ (r : Span). r.parent)) h.span

-- where parents are open, the id of a parent is that of an open span
pub of_parent : (m : Spans) (x : ℕ) (o : Option Id)
    → ((p : ℕ) → parent_of m x ≡ Some p → IsOpen m p) → option_map number_of o ≡ parent_of m x → IfSome o (λ p. IsOpen m (number_of p))
of_parent m x None law e = tt
of_parent m x (Some p) law e = law (number_of p) (sym e)

-- the ids of references
abbrev pub ids : List (Reference RegistryState) → List ℕ
ids rs = map (λ r. r.id) rs

-- those of the references to these spans
ids_to : (s : RegistryState) (mask : FilterSet) (xs : List ℕ) → ids (map (reference_to (λ t. t) s mask) xs) ≡ xs
ids_to s mask [] = refl
ids_to s mask (x ∷ xs) = ap (λ (ys : List ℕ). x ∷ ys) (ids_to s mask xs)

-- the other way round
ids_reversed : (rs : List (Reference RegistryState)) → ids (reverse rs) ≡ reverse (ids rs)
ids_reversed [] = refl
ids_reversed (r ∷ rs) =
    ap ids (reverse-append (r ∷ []) rs)
    ∙ map-append (λ (q : Reference RegistryState). q.id) (reverse rs) (r ∷ [])
    ∙ ap (λ (ys : List ℕ). ys ++ (r.id ∷ [])) (ids_reversed rs)
    ∙ sym (reverse-append (r.id ∷ []) (ids rs))

-- the last of a list is what stands at its end
last_at_end : (o : Option ℕ) (xs : List ℕ) (x : ℕ) → last_or o (xs ++ (x ∷ [])) ≡ Some x
last_at_end o [] x = refl
last_at_end o (y ∷ xs) x = last_at_end (Some y) xs x

-- the span that a reference was found to is in the store
pub reference_found : (s : RegistryState) (id : Id) (o : Option (SpanRef RegistryState)) (r : SpanRef RegistryState)
    → FindsSpan (λ t. t) s id o → o ≡ Some r → get s.store.spans (number_of id) ≡ Some (span_of_reference r)
reference_found s id o r h e = sym h.span ∙ ap (option_map (λ (q : SpanRef RegistryState). span_of_reference q)) e

-- what was found last on the way up, when nothing is left, is where the chain of parents ends
climbed : (s : RegistryState) (id : Id) (o : Option (SpanRef RegistryState))
    (r : SpanRef RegistryState) (last : Option Id) (left all : List (Reference RegistryState)) (c : ChainEndsAtRoot s.store.spans (number_of id))
    → FindsSpan (λ t. t) s id o → o ≡ Some r → all ≡ scope_of_reference (λ t. t) r
    → last_or (option_map number_of last) (ids left) ≡ last_or None (ids all) → left ≡ [] → option_map number_of last ≡ Some c.1
climbed s id o r last left all c h e given same none =
    let chain = c.0 ++ (c.1 ∷ []) in
    sym (ap (λ (rs : List (Reference RegistryState)). last_or (option_map number_of last) (ids rs)) none)
    ∙ same
    ∙ ap (λ (rs : List (Reference RegistryState)). last_or None (ids rs)) (given ∙ scope_found (λ t. t) s id r o chain h e c.2)
    ∙ ap (last_or None) (ids_to s (λ n. false) chain)
    ∙ last_at_end None c.0 c.1

-- that is the root
is_root : (s : RegistryState) (id : Id) (last : Option Id) (c : ChainEndsAtRoot s.store.spans (number_of id))
    → option_map number_of last ≡ Some c.1 → IfSome last (IsRootAbove s id)
is_root s id None c e = tt
is_root s id (Some r) c e =
    let m = s.store.spans in
    let same : c.1 ≡ number_of r = cc in
    record {
      way = (c.0, subst (λ (n : ℕ). IsChain m (Some (number_of id)) (c.0 ++ (n ∷ []))) same c.2);
      there = subst (IsInStore m) same c.3;
      top = subst (λ (n : ℕ). parent_of m n ≡ None) same c.4;
    }

-- and there is one
some_root : (s : RegistryState) (id : Id) (last : Option Id) (c : ChainEndsAtRoot s.store.spans (number_of id))
    → option_map number_of last ≡ Some c.1 → IsSome last
some_root s id None c e = absurd (cc)
some_root s id (Some r) c e = refl

-- where a span was found, a climb ends at its root
pub arrived : (s : RegistryState) (id : Id) (o : Option (SpanRef RegistryState)) (r : SpanRef RegistryState)
    (last : Option Id) (left all : List (Reference RegistryState)) → (IsInStore s.store.spans (number_of id) → ChainEndsAtRoot s.store.spans (number_of id))
    → FindsSpan (λ t. t) s id o → o ≡ Some r → all ≡ scope_of_reference (λ t. t) r → last_or (option_map number_of last) (ids left) ≡ last_or None (ids all)
    → left ≡ [] → IfSome last (IsRootAbove s id) × IsSome last × IsInStore s.store.spans (number_of id)
arrived s id o r last left all law h e given same none =
    let there : IsInStore s.store.spans (number_of id) = (span_of_reference r, reference_found s id o r h e) in
    let chain = law there in
    let f = climbed s id o r last left all chain h e given same none in
    (is_root s id last chain f, some_root s id last chain f, there)

-- the scope from the root is its chain of parents, the other way round
pub from_root_found : (s : RegistryState) (id : Id)
    (o : Option (SpanRef RegistryState)) (r : SpanRef RegistryState) (scope : Scope RegistryState) (result : Result (ScopeFromRoot RegistryState) TraceError)
    → FindsSpan (λ t. t) s id o
    → o ≡ Some r → to_give (λ t. t) scope ≡ scope_of_reference (λ t. t) r → IfOk result (Reverses (λ t. t) scope) → IfOk result (GivesFromRoot s id)
from_root_found s id o r scope (Ok w) h e given v = λ xs chain.
    ap ids v
    ∙ ids_reversed (to_give (λ t. t) scope)
    ∙ ap (λ (rs : List (Reference RegistryState)). reverse (ids rs)) (given ∙ scope_found (λ t. t) s id r o xs h e chain)
    ∙ ap reverse (ids_to s (λ n. false) xs)
from_root_found s id o r scope (Err error) h e given v = tt

-- such a scope leads down to its span
pub descends : (s : RegistryState) (id : Id) (result : Result (ScopeFromRoot RegistryState) TraceError) → IfOk result (GivesFromRoot s id)
    → (xs : List ℕ) → IsChainOf s id xs → IsDescent s.store.spans None (reverse xs) (number_of id) → IfOk result (LeadsDownTo s id)
descends s id (Ok w) given xs chain down = subst (λ (ys : List ℕ). IsDescent s.store.spans None ys (number_of id)) (sym (given xs chain)) down
descends s id (Err error) given xs chain down = tt
