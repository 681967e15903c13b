-- What is printed of what a stack serves.
use Rattle.std.proofs.Common.{◌≡◌, ℕ, List, map, Result, Ok, Err, IfOk, ap, length, sym, subst, ◌∙◌}
use Rattle.span_dispatch.specs.declared.recorded.Recorded.{Recorded}
use Rattle.span_dispatch.specs.declared.request.Answer.{Answer}
use Rattle.span_dispatch.specs.declared.request.Request.{Request}
use Rattle.span_store.specs.declared.limits.Limits.{Limits}
use Rattle.span_script.specs.Printed.{Gives, GivesShared, IsPrinted}
use Rattle.span_script.specs.Script.{lines_of, recorders_of, requests_of}
use Rattle.span_script.specs.Stacks.{Serves}
use Rattle.span_script.specs.declared.script.Script.{Script}
use Rattle.span_script.specs.declared.stack_name.StackName.{StackName}

pub gives : (limits : Limits) (stack : StackName) (script : Script)
    (asked : List Request) (given answers : List Answer) (sections : List (List ℕ × List Recorded)) (kept : List (List Recorded)) (text : List ℕ)
    → Serves limits stack asked given kept → asked ≡ requests_of script → answers ≡ given
    → map (λ one. one.1) sections ≡ kept
    → map (λ one. one.0) sections ≡ recorders_of stack → IsPrinted (lines_of script) answers sections text → Gives limits stack script text
gives limits stack script asked given answers sections kept text served same_requests same_answers same_kept named printed = record {
  answers = answers;
  sections = sections;
  served = subst (λ rs. Serves limits stack rs answers (map (λ one. one.1) sections)) same_requests
      (subst (λ xs. Serves limits stack asked xs (map (λ one. one.1) sections)) (sym same_answers)
      (subst (λ ns. Serves limits stack asked given ns) (sym same_kept) served));
  named = named;
  printed = printed;
}

-- the same of what workers serve
pub gives_shared : (stack : StackName) (script : Script) (asked : List Request) (given answers : List Answer)
    (sections : List (List ℕ × List Recorded)) (text : List ℕ) → length given ≡ length asked → asked ≡ requests_of script → answers ≡ given
    → map (λ one. one.0) sections ≡ recorders_of stack → IsPrinted (lines_of script) answers sections text → GivesShared stack script text
gives_shared stack script asked given answers sections text each same_requests same_answers named printed = record {
  answers = answers;
  sections = sections;
  served = ap length same_answers ∙ each ∙ ap length same_requests;
  named = named;
  printed = printed;
}

-- one fact of what came of a call, two, and three
pub one_ok : {X Y : Type 0} (r : Result X Y) (P Q : X → Type 0) → IfOk r P → ((x : X) → P x → Q x) → IfOk r Q
one_ok (Ok x) P Q p f = f x p
one_ok (Err e) P Q p f = tt

pub two_ok : {X Y : Type 0} (r : Result X Y) (P Q R : X → Type 0) → IfOk r P → IfOk r Q → ((x : X) → P x → Q x → R x) → IfOk r R
two_ok (Ok x) P Q R p q f = f x p q
two_ok (Err e) P Q R p q f = tt

pub three_ok : {X Y : Type 0} (r : Result X Y) (P Q T R : X → Type 0) → IfOk r P → IfOk r Q → IfOk r T → ((x : X) → P x → Q x → T x → R x) → IfOk r R
three_ok (Ok x) P Q T R p q t f = f x p q t
three_ok (Err e) P Q T R p q t f = tt
