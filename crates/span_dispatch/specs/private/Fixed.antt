-- Stacks whose filters take levels alone: what is made of a list of requests, said of the form and
-- the registry alone.
use Rattle.std.specs.Prelude.{◌≡◌, ℕ, if◌then◌else◌, List, []}
use Rattle.span_dispatch.specs.Cache.{KeptCallsites}
use Rattle.span_dispatch.specs.Outcome.{OutcomeAt}
use Rattle.span_dispatch.specs.Serve.{Formed, Run}
use Rattle.span_dispatch.specs.declared.request.Answer.{Answer}
use Rattle.span_dispatch.specs.declared.request.Request.{Request}
use Rattle.span_filters.specs.Level.{answers_set}
use Rattle.span_store.specs.Store.{RegistryState}
use Rattle.span_registry.specs.Conducts.{filter_numbered}
use Rattle.span_registry.specs.Form.{Terminal, Filtered, Form, Leaf, Parts}
use Rattle.span_targets.specs.declared.setting.Setting.{Setting}

-- the form once the filter with this number was to take this setting, where each filter that takes
-- settings takes levels alone
abbrev pub set_at : ℕ → Setting → Form → Form
set_at n s (Leaf still a) = Leaf still a
set_at n s (Filtered m a f) =
    if filter_numbered m n then Filtered m (answers_set s a) f else Filtered m a (set_at n s f)
set_at n s (Parts k o i) = Parts k (set_at n s o) (set_at n s i)
set_at n s (Terminal v) = Terminal v

-- A stack of this form, whose filters take levels alone, answers the requests with these answers,
-- from one registry and its cached callsites to the others; these outcomes are made of each
-- request.
abbrev pub RunsBy : Form → List Request → List Answer → List (List OutcomeAt) → KeptCallsites
    → RegistryState → KeptCallsites → RegistryState → Type 0
RunsBy f requests answers made kept s after t =
    (g : Form) × Run (λ (r : Formed). r.0) (λ r w. (w, r.1)) (λ r h. h ≡ r.1)
    (λ r p e lane v q w. q.1 ≡ r.1) (λ r n s q. q.1 ≡ set_at n s r.1) [] requests answers made
    kept (s, f) after (t, g)
