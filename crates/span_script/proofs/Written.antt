-- What was read, printed and written.
use Rattle.std.proofs.Common.{◌≡◌, ◌∙◌, ◌⊎◌, ℕ, List, Option, Some, None, Result, Ok, Err, IfSome, IfErr, IfOk, IsErrAnd, OnOk, ap, inr, subst}
use Rattle.std.specs.Io.KnownBytes.{Appends}
use Rattle.std.specs.Str.Lossy.{utf8_lossy}
use Rattle.span_script.specs.declared.run_fault.RunFault.{RunFault}
use Rattle.span_script.specs.declared.run_fault.RunFault.TheVariants.{Io}

module _ (prints : List ℕ → List ℕ → Type 0) where
  -- what was read is the text, and what is printed for it was written
  pub written : {A : Type 0} (known : Option (List ℕ)) (items text output : List ℕ) (old new : Option (List ℕ)) (r : Result A RunFault)
      → IfSome known (λ given. items ≡ given) → text ≡ utf8_lossy items → prints text output → OnOk r (Appends old new output)
      → OnOk r (IfSome known (λ bytes. (out : List ℕ) × (prints (utf8_lossy bytes) out × Appends old new out)))
  written None items text output old new (Ok u) read is printed w = tt
  written (Some given) items text output old new (Ok u) read is printed w =
      (output, (subst (λ t. prints t output) (is ∙ ap (λ xs. utf8_lossy xs) read) printed, w))
  written known items text output old new (Err e) read is printed w = tt

  pub printable : (known : Option (List ℕ)) (items text output : List ℕ) → IfSome known (λ given. items ≡ given) → text ≡ utf8_lossy items → prints text output
      → IfSome known (λ bytes. (out : List ℕ) × prints (utf8_lossy bytes) out)
  printable None items text output read is printed = tt
  printable (Some given) items text output read is printed = (output, subst (λ t. prints t output) (is ∙ ap (λ xs. utf8_lossy xs) read) printed)

-- one fact of what came of a call
pub one_ok : {X Y : Type 0} (r : Result X Y) (P Q : X → Type 0) → IfOk r P → ((x : X) → P x → Q x) → IfOk r Q
one_ok (Ok x) P Q p f = f x p
one_ok (Err e) P Q p f = tt

-- where writing failed, the script was right
pub refused : {A : Type 0} (P : Type 0) (Q : Type 0) (r : Result A RunFault) → IfErr r (λ fault. fault ≡ Io) → Q → IfErr r (λ fault. P ⊎ ((fault ≡ Io) × Q))
refused P Q (Ok u) io right = tt
refused P Q (Err e) io right = inr (io, right)

-- a fault that is handed on
pub handed_on : {A : Type 0} (r : Result A RunFault) (fault : RunFault) → IsErrAnd r (λ f. f ≡ fault) → fault ≡ Io → IfErr r (λ f. f ≡ Io)
handed_on (Ok u) fault h io = tt
handed_on (Err e) fault h io = h ∙ io
