-- Texts with a byte between.
use Rattle.std.proofs.Common.{◌≡◌, ◌≤◌, ℕ, List, [], ◌∷◌, ◌++◌, String, drop, flat_map, length, map, ap, append-nil, append_assoc, sym, ◌∙◌}
use Rattle.std.proofs.Math.ListN.{drop_of_length-le}
use Rattle.std.specs.List.{join_with_byte}
use Rattle.std.specs.Prelude.{string_bytes}
use Rattle.std.specs.declared.alloc.Global.{Global}
use Rattle.span_sender.specs.Body.{listed, resource_spans}

-- each but the first behind the byte
join_with_byte-cons : {X : Type 0} (c : ℕ) (f : X → List ℕ) (x : X) (xs : List X)
    → join_with_byte c (map f (x ∷ xs)) ≡ f x ++ flat_map (λ y. c ∷ f y) xs
join_with_byte-cons c f x [] = sym (append-nil (f x))
join_with_byte-cons c f x (y ∷ ys) = ap (λ l. f x ++ (c ∷ l)) (join_with_byte-cons c f y ys)

-- what a span adds behind another
abbrev pub behind : String Global → List ℕ
behind span = 44 ∷ resource_spans (string_bytes span)

-- once the first is written, and then those behind it, all are
pub all_listed : (old mid new : List ℕ) (first : String Global) (rest spans : List (String Global)) (index : ℕ)
    → spans ≡ first ∷ rest → mid ≡ old ++ resource_spans (string_bytes first)
    → new ++ flat_map behind (drop index rest) ≡ mid ++ flat_map behind rest → length rest ≤ index
    → new ≡ old ++ listed spans
all_listed old mid new first rest spans index s m e h =
    let none : new ++ flat_map behind (drop index rest) ≡ new =
    ap (λ l. new ++ flat_map behind l) (drop_of_length-le rest h) ∙ append-nil new in
    let whole = join_with_byte-cons 44 (λ (span : String Global). resource_spans (string_bytes span)) first rest in
    rw s (sym none ∙ e ∙ ap (λ l. l ++ flat_map behind rest) m ∙ append_assoc old _ _ ∙ ap (λ l. old ++ l) (sym whole))
