-- Filters that look at spans, but at no extensions: they are plain.
use Rattle.std.proofs.Common.{◌≡◌, ◌||◌, Bool, false, List, [], ◌∷◌, Option, Some, None, ap, refl}
use Rattle.std.specs.FinMap.{get}
use Rattle.std.specs.List.{list_any}
use Rattle.std.specs.Option.{option_map, option_map_or}
use Rattle.span_core.specs.Metadata.{level_of}
use Rattle.span_core.specs.declared.level.Level.{Level}
use Rattle.span_filters.specs.EnvFilter.{env_answers, passes_around}
use Rattle.span_filters.specs.Setting.{setting_after, setting_answers, setting_conduct}
use Rattle.span_registry.proofs.Plain.{scopes_alike}
use Rattle.span_registry.specs.Behaviour.{AreAlike, AreAlikeHistories, ArePlain, History, IsPlain, OfNotice, OfReload, unextended}
use Rattle.span_registry.specs.View.{SeenSpan, View}
use Rattle.span_targets.specs.EnvFilter.{passes_anywhere, passes_within, spans_of}
use Rattle.span_targets.specs.declared.env_filter.EnvFilter.{EnvFilter}
use Rattle.span_targets.specs.declared.setting.Setting.TheVariants as setting
use Rattle.span_targets.specs.declared.setting.Setting.{Setting}
use Rattle.span_targets.specs.declared.span_directive.SpanDirective.{SpanDirective}

module _ (ds : List SpanDirective) (l : Level) where
  passes_unextended : (o p : Option SeenSpan) → option_map unextended o ≡ option_map unextended p
      → option_map_or (λ r. passes_within ds r.metadata l) o false ≡ option_map_or (λ r. passes_within ds r.metadata l) p false
  passes_unextended None None h = refl
  passes_unextended None (Some q) h = let no : ⊥ = cc in absurd no
  passes_unextended (Some r) None h = let no : ⊥ = cc in absurd no
  passes_unextended (Some r) (Some q) h = ap (λ (o : Option SeenSpan). option_map_or (λ (w : SeenSpan). passes_within ds w.metadata l) o false) h

  -- what passes in the spans round a lane does in each view that differs in extensions alone
  around_alike : (v w : View) → AreAlike v w → passes_around ds l v ≡ passes_around ds l w
  around_alike v w h = λ i. list_any (λ x. passes_unextended (get v.spans x) (get w.spans x) (h.spans x) i) (scopes_alike v w h i)

-- what a filter by targets and spans answers is plain
pub env_plain : (f : EnvFilter) → ArePlain (env_answers f)
env_plain f = record {
  enabled = λ m v w h. ap (λ (b : Bool). passes_anywhere f m || b) (around_alike (spans_of f) (level_of m) v w h);
  event = λ e v w h. refl;
}

-- what a filter by a setting answers is plain
setting_answers_plain : (s : Setting) → ArePlain (setting_answers s)
setting_answers_plain (setting.Level l) = record { enabled = λ m v w h. refl; event = λ e v w h. refl }
setting_answers_plain (setting.Directives f) = let p = env_plain f.now in record { enabled = p.enabled; event = p.event }

setting_same : (f g : Setting) (h k : History) → f ≡ g → AreAlikeHistories h k → setting_after f h ≡ setting_after g k
setting_same f g [] [] e a = e
setting_same f g (OfNotice d v ∷ h) (OfNotice n w ∷ k) e a = setting_same f g h k e a.2
setting_same f g (OfReload s ∷ h) (OfReload t ∷ k) e a = setting_same s t h k a.0 a.1
setting_same f g h k e a = absurd a

-- the conduct of a filter by a setting is plain
pub setting_plain : (f : Setting) → IsPlain (setting_conduct f)
setting_plain f = record {
  answers = λ h. setting_answers_plain (setting_after f h);
  history = λ h k a. ap setting_answers (setting_same f f h k refl a);
}
