-- A line is handed on behind the end of the last one.
use Rattle.std.proofs.Common.{◌≡◌, ◌≢◌, ◌<◌, ◌==◌, ◌∙◌, ℕ, Bool, true, false, not, List, [], ◌∷◌, ◌++◌, Option, length, refl, sym, ap, subst, arith}
use Rattle.std.proofs.KnownBytes.{Appends-nil, Appends-trans}
use Rattle.std.proofs.lemmas.Bool.{eqb-false, eqb-true, true≢false}
use Rattle.std.proofs.lemmas.List.{nil_from_length}
use Rattle.std.specs.Io.KnownBytes.{Appends}
use Rattle.span_fmt.proofs.Handed.{feed_left, feed_taken, handed_empty, handed_none, handed_part, handed_whole}
use Rattle.span_fmt.specs.Outlet.{IsHanded, Mends, Puts, Takes, is_torn, lost_of, mending, next_lost, without_line, writer_of}
use Rattle.span_fmt.specs.declared.outlet.Outlet.{Outlet}

-- the same under other names of its end
renamed : (line : List ℕ) (torn : Bool) (lost : ℕ) (piece : List ℕ) (a b : Bool) (m n : ℕ)
    → IsHanded line torn lost piece a m → b ≡ a → n ≡ m → IsHanded line torn lost piece b n
renamed line torn lost piece a b m n h first second =
    subst (λ (k : ℕ). IsHanded line torn lost piece b k) (sym second) (subst (λ (t : Bool). IsHanded line torn lost piece t m) (sym first) h)

module _ {W : Type 0} (contents : W → Option (List ℕ)) (line : List ℕ) (o m p : Outlet W) where
  -- there is none
  pub put_empty : line ≡ [] → Puts contents line o o
  put_empty e = record { piece = []; handed = handed_empty line (lost_of o) (is_torn o) e; grown = Appends-nil (contents (writer_of o)); none = λ f. refl }

  -- no line feed was taken in front of it
  pub put_none : line ≢ [] → Mends contents o m false → p ≡ without_line m → Puts contents line o p
  put_none filled mends is =
      let failed = mends.failed refl in
      let handed = subst (λ (t : Bool). IsHanded line t (lost_of o) [] true (next_lost (lost_of o))) (sym failed.0) (handed_none line (lost_of o) filled) in
      record {
        piece = [];
        handed = renamed line (is_torn o)
            (lost_of o) [] true (is_torn p) (next_lost (lost_of o)) (lost_of p) handed (ap is_torn is ∙ mends.torn) (ap lost_of is ∙ ap next_lost mends.lost);
        grown = subst (λ (w : W). Appends (contents (writer_of o)) (contents w) []) (sym (ap writer_of is)) failed.1;
        none = λ e. absurd (filled e);
      }

  module _
      (left : List ℕ) (filled : line ≢ []) (mends : Mends contents o m true) (taken : Takes (contents (writer_of m)) (contents (writer_of p)) line left) where
    both : Appends (contents (writer_of o)) (contents (writer_of p)) (mending (is_torn o) ++ taken.0)
    both = Appends-trans (contents (writer_of o)) (contents (writer_of m)) (contents (writer_of p)) (mending (is_torn o)) taken.0 (mends.mended refl) taken.2

    -- it was taken whole
    pub put_whole : left ≡ [] → is_torn p ≡ is_torn m → lost_of p ≡ lost_of m → Puts contents line o p
    put_whole all torn lost = record {
      piece = mending (is_torn o) ++ taken.0;
      handed = renamed line (is_torn o) (lost_of o) (mending (is_torn o) ++ taken.0) false (is_torn p) (lost_of o) (lost_of p)
          (handed_whole line (lost_of o) (is_torn o) taken.0 filled (taken.1 ∙ ap (λ (r : List ℕ). taken.0 ++ r) all)) (torn ∙ mends.torn) (lost ∙ mends.lost);
      grown = both;
      none = λ e. absurd (filled e);
    }

    -- a part of it was
    pub put_part : 0 < length left → is_torn p ≡ not (length left == length line) → lost_of p ≡ next_lost (lost_of m) → Puts contents line o p
    put_part some torn lost = record {
      piece = mending (is_torn o) ++ taken.0;
      handed = renamed line (is_torn o) (lost_of o) (mending (is_torn o) ++ taken.0) (is_torn p) (is_torn p) (next_lost (lost_of o))
          (lost_of p) (handed_part line (lost_of o) (is_torn o) taken.0 left (is_torn p) filled taken.1 some torn) refl (lost ∙ ap next_lost mends.lost);
      grown = both;
      none = λ e. absurd (filled e);
    }

module _ {W : Type 0} (contents : W → Option (List ℕ)) (line : List ℕ) (o m q p : Outlet W) (left : List ℕ) where
  -- a part of it was, and it is counted as lost
  pub put_cut : line ≢ [] → Mends contents o m true → Takes (contents (writer_of m)) (contents (writer_of q)) line left
      → 0 < length left → is_torn q ≡ not (length left == length line) → lost_of q ≡ lost_of m → p ≡ without_line q → Puts contents line o p
  put_cut filled mends taken some torn lost is =
      subst (λ (r : Outlet W). Puts contents line o r)
      (sym is) (put_part contents line o m (without_line q) left filled mends taken some torn (ap next_lost lost))

-- ---- the end of the last one

module _ {W : Type 0} (contents : W → Option (List ℕ)) (o p : Outlet W) where
  -- it is there
  pub mends_nothing : is_torn o ≡ false → Mends contents o o true
  mends_nothing e = record {
    lost = refl;
    torn = e;
    mended = λ f. subst (λ (t : Bool). Appends (contents (writer_of o)) (contents (writer_of o)) (mending t)) (sym e) (Appends-nil (contents (writer_of o)));
    failed = λ f. absurd (true≢false f);
  }

  -- it isn't, and a line feed was taken, or it wasn't
  module _ (rest : List ℕ)
      (torn : is_torn o ≡ true) (taken : Takes (contents (writer_of o)) (contents (writer_of p)) (10 ∷ []) rest) (lost : lost_of p ≡ lost_of o) where
    pub mends_now : rest ≡ [] → is_torn p ≡ false → Mends contents o p true
    mends_now all sound = record {
      lost = lost;
      torn = sound;
      mended = λ f. subst (λ (t : Bool). Appends (contents (writer_of o)) (contents (writer_of p)) (mending t))
          (sym torn) (feed_taken (contents (writer_of o)) (contents (writer_of p)) rest taken all);
      failed = λ f. absurd (true≢false f);
    }

    pub mends_not : 0 < length rest → is_torn p ≡ is_torn o → Mends contents o p false
    mends_not some still = record {
      lost = lost;
      torn = still ∙ torn;
      mended = λ f. absurd (true≢false (sym f));
      failed = λ f. (torn, feed_left (contents (writer_of o)) (contents (writer_of p)) rest taken some);
    }

-- ---- tests of lengths

pub empty_line : (line : List ℕ) → (length line == 0) ≡ true → line ≡ []
empty_line line e = nil_from_length line (eqb-true (length line) 0 e)

pub filled_line : (line : List ℕ) → (length line == 0) ≡ false → line ≢ []
filled_line line e is = eqb-false (length line) 0 e (ap length is)

pub some_left : (line : List ℕ) → (length line == 0) ≡ false → 0 < length line
some_left line e = let n = eqb-false (length line) 0 e in omega (arith, n)
