-- A list in whose place the same members stand is the same list.
use Rattle.std.proofs.Common.{◌≡◌, ◌≤◌, List, length, sym, ap, subst, ◌∙◌}
use Rattle.std.proofs.Props.{props}
use Rattle.std.proofs.lemmas.List.{with_items_is}
use Rattle.std.specs.Vec.{with_items}
use Rattle.std.specs.declared.vec.Vec.{Vec}

module _ {X Z : Type 0} (v : Vec X Z) where
  abbrev Fits : List X → Type 0
  Fits us = (v.len ≡ length us) × (v.len ≤ v.cap)

  abbrev made : (us : List X) → Fits us → Vec X Z
  made us ok = record { ptr = v.ptr; len = v.len; cap = v.cap; alloc = v.alloc; items = us; ok = ok; small = v.small }

  made_same : (us : List X) → v.items ≡ us → (g : Fits us) → v ≡ made us g
  made_same us e =
      subst (λ (xs : List X). (g : Fits xs) → v ≡ made xs g) e (λ g. let proof : v.ok ≡ g = hlevel props in ap (λ (f : Fits v.items). made v.items f) proof)

  pub same_items : (ws : List X) → ws ≡ v.items → with_items v ws ≡ v
  same_items ws e = sym (made_same (with_items v ws).items (sym (with_items_is v ws (ap length e ∙ sym v.ok.0) ∙ e)) (with_items v ws).ok)
