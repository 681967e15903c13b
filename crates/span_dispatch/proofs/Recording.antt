-- Notified of one list and then of another, a recorder keeps of both in a row.
use Rattle.std.proofs.Common.{◌≡◌, List, [], ◌∷◌, ◌++◌, refl, sym, ap, ◌∙◌, append_assoc, Bool, true, false, ◌+◌, length, arith}
use Rattle.std.proofs.lemmas.Bool.{true≢false}
use Rattle.std.proofs.lemmas.List.{append-nil, length-append}
use Rattle.span_dispatch.specs.Recorder.{RecorderState, Records}
use Rattle.span_dispatch.specs.declared.recorded.Recorded.{Recorded}

pub records_nothing : (r : RecorderState) → Records r r []
records_nothing r = record {
  more = [];
  lost = [];
  split = refl;
  kept = sym (append-nil r.notices);
  all = λ _. refl;
  failed = λ f. (f, refl);
  fails = λ f t. absurd (true≢false (sym t ∙ f));
  room = omega arith;
  silent = λ _. refl;
}

no_more : (ns ms : List Recorded) → ns ++ ms ≡ [] → (ns ≡ []) × (ms ≡ [])
no_more [] ms e = (refl, e)
no_more (n ∷ ns) ms e = let no : ⊥ = cc in absurd no

pub records_more : (a b c : RecorderState) (ns ms : List Recorded) → Records a b ns
    → Records b c ms → Records a c (ns ++ ms)
records_more a b c ns ms f g = by_case b.failed refl
  where
    kept : c.notices ≡ a.notices ++ (f.more ++ g.more)
    kept =
        g.kept ∙ ap (λ (us : List Recorded). us ++ g.more) f.kept
        ∙ append_assoc a.notices f.more g.more

    failed : a.failed ≡ true → (c.failed ≡ true) × (f.more ++ g.more ≡ [])
    failed t =
        let u = f.failed t in
        let v = g.failed u.0 in
        (v.0, ap (λ (us : List Recorded). us ++ g.more) u.1 ∙ v.1)

    length-more : length (f.more ++ g.more) ≡ length f.more + length g.more
    length-more = length-append f.more g.more

    silent : ns ++ ms ≡ [] → c ≡ a
    silent e = let both = no_more ns ms e in g.silent both.1 ∙ f.silent both.0

    by_case : (w : Bool) → b.failed ≡ w → Records a c (ns ++ ms)
    by_case true e =
        let v = g.failed e in
        record {
          more = f.more ++ g.more;
          lost = f.lost ++ ms;
          split =
              ap (λ (us : List Recorded). us ++ ms) f.split ∙ append_assoc f.more f.lost ms
              ∙ ap (λ (us : List Recorded). us ++ (f.lost ++ ms))
              (sym (ap (λ (us : List Recorded). f.more ++ us) v.1 ∙ append-nil f.more));
          kept = kept;
          all = λ no. absurd (true≢false (sym v.0 ∙ no));
          failed = failed;
          fails =
              λ was now. let u = f.fails was e in (
                λ none. u.0 (no_more f.lost ms none).0,
                let r = u.1 in let k = length-more in
                    omega arith,
              );
          room = (let r = f.room in let s = g.room in let k = length-more in omega arith);
          silent = silent;
        }
    by_case false e =
        let none : f.lost ≡ [] = f.all e in
        let whole : ns ≡ f.more =
        f.split ∙ ap (λ (us : List Recorded). f.more ++ us) none ∙ append-nil f.more in
        record {
          more = f.more ++ g.more;
          lost = g.lost;
          split =
              ap (λ (us : List Recorded). us ++ ms) whole
              ∙ ap (λ (us : List Recorded). f.more ++ us) g.split
              ∙ sym (append_assoc f.more g.more g.lost);
          kept = kept;
          all = g.all;
          failed = failed;
          fails =
              λ was now. let u = g.fails e now in
              (u.0, let r = u.1 in let s = f.room in let k = length-more in omega arith);
          room = (let r = f.room in let s = g.room in let k = length-more in omega arith);
          silent = silent;
        }
