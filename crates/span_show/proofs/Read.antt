-- What is said of a text is said of the bytes that it was read from.
use Rattle.std.proofs.Common.{◌≡◌, ◌∙◌, ℕ, List, Option, Some, None, Result, Ok, Err, IfSome, IfOk, IfErr, ap}
use Rattle.std.specs.Str.Lossy.{utf8_lossy}
use Rattle.span_show.specs.Fault.{IsFault, IsFaultOf}
use Rattle.span_show.specs.declared.fault.ShowFault.TheVariants.{Input}
use Rattle.span_show.specs.declared.fault.ShowFault.{ShowFault}
use Rattle.span_show.specs.declared.format.Format.{Format}

-- what holds of each answer that there can be, and of each fault
pub on_ok : {A B : Type 0} {P Q : A → Type 0} (r : Result A B) → IfOk r P → ((a : A) → P a → Q a) → IfOk r Q
on_ok (Ok a) p f = f a p
on_ok (Err b) p f = tt

pub on_err : {A B : Type 0} {P Q : B → Type 0} (r : Result A B) → IfErr r P → ((b : B) → P b → Q b) → IfErr r Q
on_err (Ok a) p f = tt
on_err (Err b) p f = f b p

-- what holds of bytes that are this text
pub of_bytes : {Q : List ℕ → Type 0} (known : Option (List ℕ)) (items text : List ℕ)
    → IfSome known (λ given. items ≡ given) → text ≡ utf8_lossy items → ((bytes : List ℕ) → text ≡ utf8_lossy bytes → Q bytes) → IfSome known Q
of_bytes None items text read is f = tt
of_bytes (Some given) items text read is f = f given (is ∙ ap (λ xs. utf8_lossy xs) read)

-- why the text of the bytes isn't shown is why they aren't
pub of_text : (format : Format) (given : Option (List ℕ)) (f : ShowFault)
    → IfSome given (λ bytes. IsFault format (utf8_lossy bytes) f) → IsFaultOf format given f
of_text format given Input h = tt
of_text format given other h = h
