-- How a list's members are notified, one after another.
use Rattle.std.proofs.Common.{◌≡◌, List, [], ◌∷◌, ◌++◌, append-nil, append_assoc, refl, sym, ap, subst, ◌∙◌}
use Rattle.std.proofs.Math.Path.{transport}
use Rattle.span_core.specs.Filters.{has_filter, refuses}
use Rattle.span_core.specs.declared.filter.FilterId.{FilterId}
use Rattle.span_layers.specs.Layer.{LayerSteps, LeavesAlone, Notified}
use Rattle.span_layers.specs.Members.{ListSteps}
use Rattle.span_store.specs.Store.{RegistryState}
use Rattle.span_registry.proofs.CallerLemmas.{same_further, same_itself}
use Rattle.span_registry.specs.Behaviour.{Notice}
use Rattle.span_registry.specs.Context.{HandsOn, SameLoan, WritesExtensions, filters_lent, lane_lent, refused_lent, subscriber_lent}
use Rattle.span_registry.specs.Form.{Terminal, End, Form, InList, WritesOnlyExtensions, Parts}
use Rattle.span_registry.specs.Plan.{Plan, by_pass}
use Rattle.span_registry.specs.declared.context.ContextMut.{ContextMut}

loan_further : {S : Type 0} (b c d : ContextMut S) → SameLoan b c → SameLoan c d → SameLoan b d
loan_further b c d h k = record { loan = k.loan ∙ h.loan; lane = k.lane ∙ h.lane; mask = k.mask ∙ h.mask; refused = k.refused ∙ h.refused }

loan_same : {S : Type 0} (c : ContextMut S) → SameLoan c c
loan_same c = record { loan = refl; lane = refl; mask = refl; refused = refl }

module _ {S : Type 0} (registry : S → RegistryState) where
  -- a context that was handed on, and once more
  pub handed_further : (b c d : ContextMut S) → HandsOn registry b c → HandsOn registry c d → HandsOn registry b d
  handed_further b c d h k = record { loan = loan_further b c d h.loan k.loan; extensions = same_further _ _ _ h.extensions k.extensions }

  -- and one that wasn't yet
  pub handed_same : (c : ContextMut S) → HandsOn registry c c
  handed_same c = record { loan = loan_same c; extensions = same_itself (registry (subscriber_lent c)) }

  module _ (with_registry : S → RegistryState → S) where
    writes_further : ((s : S) (v w : RegistryState) → with_registry (with_registry s v) w ≡ with_registry s w) → (b c d : ContextMut S)
        → WritesExtensions registry with_registry b c → WritesExtensions registry with_registry c d → WritesExtensions registry with_registry b d
    writes_further with_twice b c d h k = record {
      loan = loan_further b c d h.loan k.loan;
      alone = k.alone ∙ ap (λ s. with_registry s (registry (subscriber_lent d))) h.alone ∙ with_twice _ _ _;
      extensions = same_further _ _ _ h.extensions k.extensions;
    }

    writes_nothing : ((s : S) → with_registry s (registry s) ≡ s) → (c : ContextMut S) → WritesExtensions registry with_registry c c
    writes_nothing with_own c =
        record { loan = loan_same c; alone = sym (with_own (subscriber_lent c)); extensions = same_itself (registry (subscriber_lent c)) }

    module _ {L : Type 0} (has : L → Form → Type 0) (stepped : LayerSteps L) (e : Notice) (b : ContextMut S) (all : List L) where
      -- who is notified of a form, as the context says that the list was given
      abbrev plan : Form → Plan
      plan f = by_pass f e (registry (subscriber_lent b)).store.spans (filters_lent b) (refuses (refused_lent b))

      -- the list goes on in that context
      abbrev Goes : List L → Plan → RegistryState → List L → RegistryState → Type 0
      Goes xs p v ys w = ListSteps stepped xs p e (lane_lent b).0 (filters_lent b) v ys w

      -- what is left goes on from here, and then the whole has gone on; hooks of members wrote extensions alone where the form says so
      pub record GoesOn (c : ContextMut S) (done rest : List L) (f r : Form) : Type 0 where
        pub alone : WritesOnlyExtensions f → WritesExtensions registry with_registry b c × WritesOnlyExtensions r
        pub steps : (ys : List L) (w : RegistryState)
            → Goes rest (plan r) (registry (subscriber_lent c)) ys w → Goes all (plan f) (registry (subscriber_lent b)) (done ++ ys) w

      -- nobody was notified yet
      pub none_notified : ((s : S) → with_registry s (registry s) ≡ s) → (f : Form) → GoesOn b [] all f f
      none_notified with_own f = record { alone = λ still. (writes_nothing with_own b, still); steps = λ ys w h. h }

      -- one member more was
      pub one_notified : ((s : S) (v w : RegistryState) → with_registry (with_registry s v) w ≡ with_registry s w)
          → (c d : ContextMut S) (done rest : List L) (x y : L) (f o r : Form) → has x o → HandsOn registry b c → HandsOn registry c d
          → LeavesAlone registry with_registry has x c d
          → Notified registry has stepped e x c y d → GoesOn c done (x ∷ rest) f (Parts InList o r) → GoesOn d (done ++ y ∷ []) rest f r
      one_notified with_twice c d done rest x y f o r form before now alone hook h =
          let under : filters_lent c ≡ filters_lent b = ap (λ (mask : FilterId). has_filter mask) before.loan.mask in
          record {
            alone = λ still. let old = h.alone still in (writes_further with_twice b c d old.0 (alone o form old.1.0), old.1.1);
            steps =
                λ ys w k. subst (λ l. Goes all (plan f) (registry (subscriber_lent b)) l w) (sym (append_assoc done (y ∷ []) ys)) (h.steps (y ∷ ys) w (record {
                  between = registry (subscriber_lent d);
                  extensions = now.extensions;
                  first =
                      transport
                      (λ n. stepped x (by_pass o e (before.extensions.spans n) (under n) (refuses (before.loan.refused n)))
                      e (before.loan.lane n).0 (under n) (registry (subscriber_lent c)) y (registry (subscriber_lent d)))
                      (hook o form);
                  rest = k;
                }));
          }

      -- all were
      pub all_notified : (c : ContextMut S) (done : List L) (f : Form)
          → GoesOn c done [] f (Terminal End) → Goes all (plan f) (registry (subscriber_lent b)) done (registry (subscriber_lent c))
      all_notified c done f h = subst (λ l. Goes all (plan f) (registry (subscriber_lent b)) l (registry (subscriber_lent c)))
          (append-nil done) (h.steps [] (registry (subscriber_lent c)) refl)
