-- A stream writes a piece of each line that its form gives, and the whole lines where it loses none.
use Rattle.std.proofs.Common.{◌≡◌, ◌<◌, ◌≤◌, ◌⊎◌, inl, inr, ◌∙◌, ℕ, Bool, false, List, [], ◌∷◌, ◌++◌, Option, refl, sym, ap, subst, arith}
use Rattle.std.proofs.KnownBytes.{Appends-nil, Appends-trans}
use Rattle.std.specs.Io.KnownBytes.{Appends}
use Rattle.span_layers.specs.Observe.{observer_of}
use Rattle.span_layers.specs.declared.observe.Observer.{Observer}
use Rattle.span_registry.specs.Position.{Heard, Told}
use Rattle.span_registry.specs.View.{View}
use Rattle.span_fmt.specs.Form.{FormMisses, FormSteps, Gives}
use Rattle.span_fmt.specs.Outlet.{IsHanded, is_torn, lost_of, most_lost, next_lost, writer_of}
use Rattle.span_fmt.specs.Stream.{Streams, form_of, outlet_of, stream_steps}
use Rattle.span_fmt.specs.Streamed.{WritesOne, WritesPieces, WritesStream}
use Rattle.span_fmt.specs.Told.{ObserverHears}
use Rattle.span_fmt.specs.declared.stream.Stream.{Stream}

-- ---- no line is lost where the count stays

module _ {F : Type 0} (gives : FormSteps F) (misses : FormMisses F) where
  handed_counts : (line : List ℕ) (torn : Bool) (n : ℕ) (piece : List ℕ) (t : Bool) (m : ℕ) → IsHanded line torn n piece t m → (m ≡ n) ⊎ (m ≡ next_lost n)
  handed_counts [] torn n piece t m h = inl (h.none refl).2
  handed_counts (b ∷ bs) torn n piece t m h = elim (h.some (λ e. cc)) [ inl w ↦ inl w.counted | inr p ↦ inr p.counted ]

  one_counts : (told : Told) (f : F) (torn : Bool) (n : ℕ) (piece : List ℕ) (g : F) (t : Bool) (m : ℕ)
      → WritesOne gives misses told f torn n piece g t m → (m ≡ n) ⊎ (m ≡ next_lost n)
  one_counts told f torn n piece g t m w = elim w [ inl given ↦ handed_counts given.0 torn n piece t m given.2 | inr missed ↦ inr missed.1.2 ]

  -- the count never goes back
  forward : (n m : ℕ) → (m ≡ n) ⊎ (m ≡ next_lost n) → n ≤ most_lost → (n ≤ m) × (m ≤ most_lost)
  forward n m way small = elim way [ inl e ↦ (omega arith, omega arith) | inr e ↦ (omega arith, omega arith) ]

  all_forward : (heard : Heard) (f : F) (torn : Bool) (n : ℕ) (text : List ℕ) (g : F) (t : Bool) (m : ℕ)
      → WritesPieces gives misses heard f torn n text g t m → n ≤ most_lost → n ≤ m
  all_forward [] f torn n text g t m w small = omega (arith, w.3)
  all_forward (told ∷ heard) f torn n text g t m w small =
      let one = forward n w.3 (one_counts told f torn n w.0 w.1 w.2 w.3 w.5) small in
      let more = all_forward heard w.1 w.2 w.3 w.4 g t m w.6 one.1 in
      omega (arith, one.0, more)

  -- a line that isn't lost is written whole
  handed_whole : (line : List ℕ) (n : ℕ) (piece : List ℕ) (t : Bool) (m : ℕ)
      → IsHanded line false n piece t m → m ≡ n → n < most_lost → (piece ≡ line) × (t ≡ false)
  handed_whole [] n piece t m h same small = ((h.none refl).0, (h.none refl).1)
  handed_whole (b ∷ bs) n piece t m h same small = elim (h.some (λ e. cc)) [ inl w ↦ (w.written, w.edge) | inr p ↦ absurd (omega (arith, p.counted)) ]

  one_whole : (told : Told) (f : F) (n : ℕ) (piece : List ℕ) (g : F) (t : Bool) (m : ℕ)
      → WritesOne gives misses told f false n piece g t m → m ≡ n → n < most_lost → gives f told.notice told.view piece g × (t ≡ false)
  one_whole told f n piece g t m w same small = elim w [
    | inl given ↦
        let whole = handed_whole given.0 n piece t m given.2 same small in
        (subst (λ (l : List ℕ). gives f told.notice told.view l g) (sym whole.0) given.1, whole.1)
    | inr missed ↦ absurd (omega (arith, missed.1.2))
  ]

  all_whole : (heard : Heard) (f : F) (torn : Bool) (n : ℕ) (text : List ℕ) (g : F) (t : Bool) (m : ℕ)
      → WritesPieces gives misses heard f torn n text g t m → torn ≡ false → m ≡ n → n < most_lost → Gives gives f heard text g × (t ≡ false)
  all_whole [] f torn n text g t m w sound same small = ((w.0, w.1), w.2 ∙ sound)
  all_whole (told ∷ heard) f torn n text g t m w sound same small =
      let one = forward n w.3 (one_counts told f torn n w.0 w.1 w.2 w.3 w.5) (omega arith) in
      let later = all_forward heard w.1 w.2 w.3 w.4 g t m w.6 one.1 in
      let still : w.3 ≡ n = omega (arith, one.0, later, same) in
      let first = one_whole told f n w.0 w.1 w.2 w.3 (subst (λ (b : Bool). WritesOne gives misses told f b n w.0 w.1 w.2 w.3) sound w.5) still small in
      let rest = all_whole heard w.1 w.2 w.3 w.4 g t m w.6 first.1 (same ∙ sym still) (omega (arith, still, small)) in
      ((w.0, w.1, w.4, first.0, rest.0, w.7), rest.1)

-- ---- what a stream is told of

module _ {F W : Type 0} (gives : FormSteps F) (misses : FormMisses F) (contents : W → Option (List ℕ)) where
  abbrev held : Stream F W → Option (List ℕ)
  held x = contents (writer_of (outlet_of x))

  abbrev Pieces : Heard → Stream F W → Stream F W → Type 0
  Pieces heard x y =
      (text : List ℕ) × WritesPieces gives misses heard (form_of x)
      (is_torn (outlet_of x)) (lost_of (outlet_of x)) text (form_of y) (is_torn (outlet_of y)) (lost_of (outlet_of y)) × Appends (held x) (held y) text

  -- a stream that is told of something goes on by its step
  took : (told : Told) (heard : Heard) (x y : Observer (Stream F W)) (a : ObserverHears (stream_steps gives misses contents) x (told ∷ heard) y)
      → Streams gives misses contents told.notice told.view (observer_of x) (observer_of a.0)
  took told heard x y a = subst (λ (v : View). Streams gives misses contents told.notice v (observer_of x) (observer_of a.0)) (sym a.1.shown) a.1.step.1.0

  abbrev OnePiece : Told → Stream F W → Stream F W → Type 0
  OnePiece told x y =
      (piece : List ℕ) × WritesOne gives misses told (form_of x)
      (is_torn (outlet_of x)) (lost_of (outlet_of x)) piece (form_of y) (is_torn (outlet_of y)) (lost_of (outlet_of y)) × Appends (held x) (held y) piece

  one_piece : (told : Told) (x y : Stream F W) → Streams gives misses contents told.notice told.view x y → OnePiece told x y
  one_piece told x y s = elim s [
    | inl given ↦ (given.2.piece, inl (given.0, given.1, given.2.handed), given.2.grown)
    | inr missed ↦
        let torn : is_torn (outlet_of y) ≡ is_torn (outlet_of x) = ap is_torn missed.1 in
        let lost : lost_of (outlet_of y) ≡ next_lost (lost_of (outlet_of x)) = ap lost_of missed.1 in
        let writer : writer_of (outlet_of y) ≡ writer_of (outlet_of x) = ap writer_of missed.1 in
        ([], inr (missed.0, (refl, torn, lost)), subst (λ (w : W). Appends (held x) (contents w) []) (sym writer) (Appends-nil (held x)))
  ]

  all_pieces : (heard : Heard) (x y : Observer (Stream F W))
      → ObserverHears (stream_steps gives misses contents) x heard y → Pieces heard (observer_of x) (observer_of y)
  all_pieces [] x y a =
      subst (λ (z : Observer (Stream F W)). Pieces [] (observer_of x) (observer_of z)) a ([], (refl, refl, refl, refl), Appends-nil (held (observer_of x)))
  all_pieces (told ∷ heard) x y a =
      let z = observer_of a.0 in
      let one = one_piece told (observer_of x) z (took told heard x y a) in
      let more = all_pieces heard a.0 y a.2 in (
        one.0 ++ more.0,
        (one.0, form_of z, is_torn (outlet_of z), lost_of (outlet_of z), more.0, one.1, more.1, refl),
        Appends-trans (held (observer_of x)) (held z) (held (observer_of y)) one.0 more.0 one.2 more.2,
      )

  pub stream_written : (x y : Observer (Stream F W)) (heard : Heard)
      → ObserverHears (stream_steps gives misses contents) x heard y → WritesStream gives misses contents heard (observer_of x) (observer_of y)
  stream_written x y heard a =
      let all = all_pieces heard x y a in
      let s = observer_of x in
      let t = observer_of y in
      record {
        pieces = all;
        whole = λ sound same small.
            let whole = all_whole gives misses heard (form_of s)
            (is_torn (outlet_of s)) (lost_of (outlet_of s)) all.0 (form_of t) (is_torn (outlet_of t)) (lost_of (outlet_of t)) all.1 sound same small in
            (all.0, whole.0, all.2, whole.1);
      }
