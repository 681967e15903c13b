use Rattle.std.proofs.Common.{refl, subst, sym, ◌∙◌}
use Rattle.span_filters.proofs.Steady.{env_plain}
use Rattle.span_filters.specs.laws.Filter.{equal_alike}
use Rattle.span_filters.proofs.laws.env_filters_are_plain.Goals as goal
use Rattle.span_registry.specs.Behaviour.{ArePlain}

pub returns : goal.returns
returns g c = λ a h. record {
  always = a;
  answered = h;
  only = λ b k. equal_alike b a (k ∙ sym h);
  plain = subst ArePlain (sym h) (env_plain c.args.filter.now);
  steady = refl;
}
