-- An entry that happens in a store leaves one store.
use Rattle.std.proofs.Common.{◌≡◌, ℕ, Bool, List, [], ◌∷◌, Option, ap, sym, subst, ◌∙◌}
use Rattle.std.specs.FinMap.{insert}
use Rattle.std.specs.FinSet.{insert as add}
use Rattle.std.specs.List.{FoldsTo}
use Rattle.span_core.specs.Span.{number_of}
use Rattle.span_core.specs.declared.span.Id.{Id}
use Rattle.span_core.specs.declared.span.Lane.{Lane}
use Rattle.span_dispatch.proofs.Acting.{one_parent}
use Rattle.span_shared.specs.Journal.{Dropping, Entry, Happens, Opening}
use Rattle.span_shared.specs.declared.entry.EntryWith.TheVariants as entry
use Rattle.span_store.specs.Closes.{Closes, remove_all}
use Rattle.span_store.specs.Step.{AskedSpan, begun}
use Rattle.span_store.specs.Store.{Spans, Store, take_handle}

opened_once : (lane : Lane) (span : AskedSpan) (id : Id) (s t u : Store) → Opening lane span id s t → Opening lane span id s u → t ≡ u
opened_once lane span id s t u a b =
    a.store ∙ ap (λ (parent : Option ℕ). record s { spans = insert s.spans (number_of id) (begun span parent); issued = add s.issued (number_of id) })
    (one_parent s lane span.parent a.parent b.parent a.chosen b.chosen) ∙ sym b.store

-- where what a drop closes is one list
module _ (closed_once : (m : Spans) (x : ℕ) (xs ys : List ℕ) → Closes m x xs → Closes m x ys → xs ≡ ys) where
  dropped_once : (id : Id) (closes : Bool) (s t u : Store) → Dropping id closes s t → Dropping id closes s u → t ≡ u
  dropped_once id closes s t u a b =
      a.store ∙ ap (λ (closed : List ℕ). record s { spans = remove_all (take_handle s.spans (number_of id)) closed })
      (closed_once s.spans (number_of id) a.closed b.closed a.exact b.exact) ∙ sym b.store

  happens_once : (e : Entry) (s t u : Store) → Happens s e t → Happens s e u → t ≡ u
  happens_once (entry.New lane m asked verdict id) s t u a b = opened_once lane (record { metadata = m; parent = asked; verdict = verdict }) id s t u a b
  happens_once (entry.Enter lane id) s t u a b = a.1 ∙ sym b.1
  happens_once (entry.Record lane id) s t u a b = a.1 ∙ sym b.1
  happens_once (entry.Follows lane id other) s t u a b = a.1 ∙ sym b.1
  happens_once (entry.Clone lane id) s t u a b = a.1 ∙ sym b.1
  happens_once (entry.Drop lane id closes) s t u a b = dropped_once id closes s t u a b
  happens_once (entry.Current lane o) s t u a b = a.1 ∙ sym b.1
  happens_once other s t u a b = a ∙ sym b

  -- so a list of entries leaves one store
  pub leaves_once : (es : List Entry) (s t u : Store) → FoldsTo Happens s es t → FoldsTo Happens s es u → t ≡ u
  leaves_once [] s t u a b = sym a ∙ b
  leaves_once (e ∷ es) s t u a b = leaves_once es b.0 t u (subst (λ v. FoldsTo Happens v es t) (happens_once e s a.0 b.0 a.1 b.1) a.2) b.2
