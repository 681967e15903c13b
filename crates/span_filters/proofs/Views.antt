-- Every view is shown by some context: of any store, on any lane, under any mask.
use Rattle.std.proofs.Common.{◌≡◌, ◌∙◌, ⊎_elim, ℕ, zero, suc, ◌+◌, ◌-◌, ◌*◌, ◌<◌, ◌≤◌, ◌^◌, ◌==◌, ◌&&◌, Bool, true, false, List, [], ◌∷◌, None, Some, arith}
use Rattle.std.proofs.Common.{pow-suc, ap, refl, sym}
use Rattle.std.proofs.lemmas.Bool.{cases_lt}
use Rattle.std.proofs.lemmas.Nat.Bits.{bit_at_cat_high, bit_at_cat_low}
use Rattle.std.specs.FinMap.{entries, from_entries, get}
use Rattle.std.specs.Int.{bit_at}
use Rattle.std.specs.Prelude.{if◌then◌else◌}
use Rattle.span_core.proofs.SomeBelow.{some_below-same}
use Rattle.span_core.specs.Filters.{FilterSet, SameMembers, has_filter, meets, refuses}
use Rattle.span_core.specs.declared.filter.FilterId.{FilterId}
use Rattle.span_core.specs.declared.filter.FilterMap.{FilterMap}
use Rattle.span_store.specs.Store.{RegistryState, Span, SpanExtensions, Store}
use Rattle.span_registry.proofs.Ancestry.{see_each}
use Rattle.span_registry.specs.Context.{view_in}
use Rattle.span_registry.specs.View.{view_of}
use Rattle.span_registry.specs.declared.context.Context.{Context}

-- ---- a word for any set of numbers

-- one bit
abbrev one_bit : Bool → ℕ
one_bit true = 1
one_bit false = 0

one_bit_is : (b : Bool) → (one_bit b == 1) ≡ b
one_bit_is true = refl
one_bit_is false = refl

lowest_of : (b : Bool) → bit_at (one_bit b) 0 ≡ one_bit b
lowest_of true = refl
lowest_of false = refl

-- the word of the numbers below this one that are in the set
abbrev word_of : ℕ → FilterSet → ℕ
word_of zero p = 0
word_of (suc n) p = one_bit (p n) * 2 ^ n + word_of n p

more_fits : (b : Bool) (n w : ℕ) → w < 2 ^ n → one_bit b * 2 ^ n + w < 2 ^ suc n
more_fits true n w h = omega (arith, pow-suc 2 n, h)
more_fits false n w h = omega (arith, pow-suc 2 n, h)

fits_of : (n : ℕ) (p : FilterSet) → word_of n p < 2 ^ n
fits_of zero p = omega arith
fits_of (suc n) p = more_fits (p n) n (word_of n p) (fits_of n p)

bits_of : (n : ℕ) (p : FilterSet) (i : ℕ) → i < n → bit_at (word_of n p) i ≡ one_bit (p i)
bits_of zero p i h = absurd (omega (arith, h))
bits_of (suc n) p i h =
    ⊎_elim
    (λ (l : i < n). bit_at_cat_low (one_bit (p n)) n (word_of n p) i l ∙ bits_of n p i l)
    (λ (l : n ≤ i).
    let same : i ≡ n = omega (arith, h, l) in
    let none : i - n ≡ 0 = omega (arith, h, l) in
    bit_at_cat_high (one_bit (p n)) n (word_of n p) i (fits_of n p) l ∙ ap (bit_at (one_bit (p n))) none ∙ lowest_of (p n) ∙ ap (λ k. one_bit (p k)) (sym same))
    (cases_lt i n)

-- the filters of the set, below 128
abbrev set_of : FilterSet → FilterId
set_of p = record { numbers = Some (record { bits = word_of 128 p; fits = fits_of 128 p }) }

set_is : (p : FilterSet) → SameMembers (has_filter (set_of p)) p
set_is p n h = ap (λ b. b == 1) (bits_of 128 p n h) ∙ one_bit_is (p n)

-- ---- what a mask shows

-- masks with the same filters below 128 hide the same
meets_same : (a b : FilterSet) (v : FilterMap) → SameMembers a b → meets a (refuses v) ≡ meets b (refuses v)
meets_same a b v h = some_below-same 128 (λ n. a n && refuses v n) (λ n. b n && refuses v n) (λ n l. ap (λ c. c && refuses v n) (h n l))

see_same : (a b : FilterSet) (xs : SpanExtensions) (es : List (ℕ × Span)) → SameMembers a b → see_each a xs es ≡ see_each b xs es
see_same a b xs [] h = refl
see_same a b xs (e ∷ es) h = λ i. (
  e.0,
  record {
    metadata = e.1.metadata;
    parent = e.1.parent;
    hidden = meets_same a b e.1.verdict h i;
    extensions = (if meets_same a b e.1.verdict h i then None else get xs e.0);
  },
) ∷ see_same a b xs es h i

-- and show the same
view_same : (s : Store) (lane : ℕ) (a b : FilterSet) → SameMembers a b → view_of s lane a ≡ view_of s lane b
view_same s lane a b h = λ i. record { lane = lane; stack = (view_of s lane a).stack; spans = from_entries (see_same a b s.extensions (entries s.spans) h i) }

-- ---- a context that shows it

module _ {S : Type 0}
    (registry : S → RegistryState) (with_registry : S → RegistryState → S) (shows : (x : S) (w : RegistryState) → registry (with_registry x w) ≡ w) where
  -- the subscriber, if it stood on this store
  abbrev standing_on : S → Store → S
  standing_on x s = with_registry x (record (registry x) { store = s })

  -- a look at it from this lane, under this mask
  abbrev look : S → Store → ℕ → FilterSet → Context S
  look x s lane mask = record {
    subscriber = Some (record { ref_ptr = (0, 0); now = standing_on x s });
    lane = record { 0 = lane };
    mask = record { filters = set_of mask; attached = refl };
  }

  -- some context shows the view
  pub shown_by_some : S → (s : Store) (lane : ℕ) (mask : FilterSet) → (c : Context S) × (view_in registry c ≡ view_of s lane mask)
  shown_by_some x s lane mask = (
    look x s lane mask,
    ap (λ (w : RegistryState). view_of w.store lane (has_filter (set_of mask))) (shows x (record (registry x) { store = s }))
        ∙ view_same s lane (has_filter (set_of mask)) mask (set_is mask),
  )
