-- What lets no muted event by is honest and plain.
use Rattle.std.specs.Prelude.{refl}
use Rattle.span_script.specs.Mute.{mute_answers}
use Rattle.span_registry.specs.Behaviour.{AreHonest, ArePlain}

-- the answers are honest
pub mute_honest : AreHonest mute_answers
mute_honest = record {
  always = λ m v e. refl;
  never = λ m v e. absurd (cc);
  above = λ m v e. absurd (cc);
  alike = λ m k e. refl;
}

-- and plain, since they look at no view
pub mute_plain : ArePlain mute_answers
mute_plain = record { enabled = λ m v w e. refl; event = λ e v w d. refl }
