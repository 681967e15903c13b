-- Forms keep what they have, and their rules, also where a filter takes a setting.
use Rattle.std.specs.Prelude.{◌≡◌, true, refl, ℕ, Bool, false}
use Rattle.std.proofs.Common.{◌∙◌, subst, sym}
use Rattle.span_registry.specs.Behaviour.{Behaviour, AreHonest}
use Rattle.span_registry.specs.Conducts.{filter_numbered}
use Rattle.span_registry.specs.Form.{Terminal, Filtered, Form, Leaf, Parts}
use Rattle.span_registry.specs.KeptForm.{AnswersKeep, KeepsForm}
use Rattle.span_registry.specs.Reload.{EitherReloaded, KeepsRules, ReloadedForm}

-- answers keep what they are
pub kept_answers : (a : Behaviour) → AnswersKeep a a
kept_answers a =
    record { same = record { interest = refl; hint = refl }; honest = λ h. h; quiet = λ h. h }

-- a form keeps all of itself
pub kept_form : (f : Form) → KeepsForm f f
kept_form (Leaf still a) = (refl, kept_answers a)
kept_form (Filtered n a f) = (refl, record { interest = refl; hint = refl }, (λ h. h), kept_form f)
kept_form (Parts k o i) = (refl, kept_form o, kept_form i)
kept_form (Terminal v) = refl

-- a form keeps its own rules
pub own_rules : (f : Form) → KeepsRules f f
own_rules (Leaf still a) = (refl, kept_answers a)
own_rules (Filtered n a f) = (refl, (λ h. h), own_rules f)
own_rules (Parts k o i) = (refl, own_rules o, own_rules i)
own_rules (Terminal v) = refl

-- a form that keeps what a notified one had keeps its rules
pub kept_rules : (f g : Form) → KeepsForm f g → KeepsRules f g
kept_rules (Leaf still a) (Leaf quiet b) h = h
kept_rules (Filtered n a f) (Filtered m b g) h = (h.0, h.2, kept_rules f g h.3)
kept_rules (Parts k o i) (Parts l p j) h = (h.0, kept_rules o p h.1, kept_rules i j h.2)
kept_rules (Terminal v) (Terminal w) h = h
kept_rules f g h = absurd h

-- a filter that stays as it is may follow from itself, whether it has the number or not
either_same : (t : Bool) (a : Behaviour) (f : Form) (rest : Type 0) → rest
    → EitherReloaded t a a (f ≡ f) rest
either_same true a f rest h = ((λ d. d), refl)
either_same false a f rest h = (refl, h)

-- a form may follow from itself, whatever setting a filter took
pub same_reloads : (n : ℕ) (f : Form) → ReloadedForm n f f
same_reloads n (Leaf still a) = refl
same_reloads n (Filtered m a f) =
    (refl, either_same (filter_numbered m n) a f (ReloadedForm n f f) (same_reloads n f))
same_reloads n (Parts k o i) = (refl, same_reloads n o, same_reloads n i)
same_reloads n (Terminal v) = refl

-- a filter and what stands under it keep their rules, whether the filter has the number or not
either_rules : (t : Bool) (a b : Behaviour) (f g : Form) (rest : Type 0) → (rest → KeepsRules f g)
    → EitherReloaded t a b (g ≡ f) rest → (AreHonest a → AreHonest b) × KeepsRules f g
either_rules true a b f g rest go h = (h.0, subst (λ z. KeepsRules f z) (sym h.1) (own_rules f))
either_rules false a b f g rest go h = ((λ d. subst AreHonest (sym h.0) d), go h.1)

-- a form keeps its rules where a filter took a setting
pub reload_rules : (n : ℕ) (f g : Form) → ReloadedForm n f g → KeepsRules f g
reload_rules n (Filtered m a f) (Filtered k b g) h =
    let r = either_rules (filter_numbered m n) a b f g (ReloadedForm n f g) (reload_rules n f g) h.1 in
    (h.0, r.0, r.1)
reload_rules n (Parts k o i) (Parts l p j) h = (h.0, reload_rules n o p h.1, reload_rules n i j h.2)
reload_rules n f g h = subst (λ z. KeepsRules f z) (sym h) (own_rules f)

-- answers keep what they are, by way of others, too
pub answers_again : (a b c : Behaviour) → AnswersKeep a b → AnswersKeep b c → AnswersKeep a c
answers_again a b c h k = record {
  same = record { interest = k.same.interest ∙ h.same.interest; hint = k.same.hint ∙ h.same.hint };
  honest = λ d. k.honest (h.honest d);
  quiet = λ d. k.quiet (h.quiet d);
}

-- what keeps a form's rules keeps them again
pub rules_again : (f g h : Form) → KeepsRules f g → KeepsRules g h → KeepsRules f h
rules_again (Leaf still a) (Leaf quiet b) (Leaf calm c) h k =
    (k.0 ∙ h.0, answers_again a b c h.1 k.1)
rules_again (Filtered n a f) (Filtered m b g) (Filtered l c e) h k =
    (k.0 ∙ h.0, (λ d. k.1 (h.1 d)), rules_again f g e h.2 k.2)
rules_again (Parts k o i) (Parts l p j) (Parts m q z) h r =
    (r.0 ∙ h.0, rules_again o p q h.1 r.1, rules_again i j z h.2 r.2)
rules_again (Terminal v) (Terminal w) (Terminal u) h k = k ∙ h
rules_again (Leaf still a) (Leaf quiet b) h p q = absurd q
rules_again (Filtered n a f) (Filtered m b g) h p q = absurd q
rules_again (Parts k o i) (Parts l p j) h q r = absurd r
rules_again (Terminal v) (Terminal w) h p q = absurd q
rules_again f g h p q = absurd p
