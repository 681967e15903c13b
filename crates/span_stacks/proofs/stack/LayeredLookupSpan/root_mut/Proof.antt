-- The inner stack's loan is lent on: the layer follows the inner stack, which follows the registry.
use mathlib.Core.Path.{◌≡◌, refl, ap}
use Prim.Native.Nat.{ℕ, ◌+◌}
use mathlib.Core.List.{List, [], ◌∷◌}
use seplogic.Ra.Ura.{Ura}
use base.Fraction.{full_share}
use mir.Syntax.{named, a_type, dcons, dnil, Args}
use mir.MapTy.{inst_fn}
use mir.Val.{Val, vptr}
use base.Logic.{SProp, ent, sep, emp, id⊢}
use base.Fml.{GName, ftrue, flft, fsep}
use prog.Memory.{align, size, up}
use types.Logic.{Logic, sem}
use contract.BorrowLft.{◌⊑◌}
use contract.Monad.{fact, fact_i}
use contract.Running.{tables}
use types.Kit.{‵, raw, ◌⊛◌, some, later, given, ◌$◌, ◌∵◌, !, qed, move, keep, drop, use0, use1, use2, split, split3, join, group, pick, learn, fsplit3, fjoin}
use types.Kit.{fjoin3, feq_i, feq_l, suffices, frame, await, done}
use types.Mut.{open_ref}
use types.Run.{stop, fld, addr, no_more, and_then, returns, enter}
use types.ByLocal.{alloc_all, pass_all, free_all, look_at, get, through, sets, lands_as}
use denote.Exit.{no}
use denote.Follow.{follows, follows_then, Part, lends_Part}
use denote.Memory.{part_at, part_of, mem}
use denote.Param.{param, layout, bounded}
use denote.Param.Laws.{Laws, param_laws}
use denote.RattleType.{RattleType}
use denote.Ref.{MutBor, MutRef, mut_vals, mut_Tells}
use denote.Signature.{plain}
use denote.Steps.{nothing, only}
use denote.Struct.Members.{Member}
use denote.Struct.Parts.{PartsBack}
use denote.Struct.Pick.{rest_at, field_out, field_back}
use denote.Triple.Call.{calls_at}
use denote.Triple.Spec.{triple_of}
use denote.Triple.Statement.{Contract}
use denote.Triple.Table.{framed}
use denote.Triple.Walked.{Stays, says, stay_dropped, Goes-spent_ref, ends_at}
use Rattle.std.proofs.raw_atomic.Walks.{proved}
use Rattle.span_store.specs.contracts.registry.Registry as N
use Rattle.span_registry.specs.contracts.lookup.LookupSpan.root_mut as inner
use Rattle.span_stacks.specs.declared.layered.Layered.{Layered}
use Rattle.span_stacks.specs.contracts.layered.Layered as W
use Rattle.span_stacks.specs.contracts.stack.LayeredLookupSpan.root_mut as f
use Rattle.span_stacks.proofs.stack.LayeredLookupSpan.root_mut.Statement.{statement}
use Rattle.span_stacks.proofs.stack.LayeredLookupSpan.root_mut.Code as code

-- the stack in memory is its inner field and what stands around it
module _ (Y I : RattleType) (LY : Laws Y) (LI : Laws I) {M : Type 1} {𝓤 : Ura M} (𝓛 : Logic 𝓤) (b o : ℕ) (x : Layered Y.Denot I.Denot) where
  abbrev R : RattleType
  R = W.the_row (param 0 Y) (param 1 I)

  abbrev ms : List Member
  ms = record { row = param 0 Y; ty = layout (param 0 Y) } ∷ record { row = param 1 I; ty = layout (param 1 I) } ∷ []

  abbrev at : ℕ
  at = o + up (align (layout (param 1 I))) (up (align (layout (param 0 Y))) 0 + size (layout (param 0 Y)))

  abbrev Back : SProp 𝓤
  Back = sep 𝓤 (sem 𝓛 (rest_at full_share ms 0 (x.layer, (x.inner, tt)) b o 1)) (PartsBack 𝓛 full_share [] ms b o)

  field_of : ent 𝓤 (sem 𝓛 (part_at R full_share x b o)) (sep 𝓤 (sem 𝓛 (part_at (param 0 I) full_share x.inner b at)) Back)
  unfolding part_of
  field_of = field_out 𝓛 full_share [] ms ((param_laws 0 Y LY).lawful 𝓛, ((param_laws 1 I LI).lawful 𝓛, tt)) (x.layer, (x.inner, tt)) b o 1

  back : (w : I.Denot) → ent 𝓤 (sep 𝓤 (sem 𝓛 ((mem (param 0 I)).own_at w b at)) Back) (sem 𝓛 ((mem R).own_at (record x { inner = w }) b o))
  unfolding part_of
  back w = field_back 𝓛 full_share [] ms (x.layer, (w, tt)) b o 1

pub root_mut_spec : {M : Type 1} → statement M
root_mut_spec 𝓤 𝓛 𝓜 𝓡 wired Y I LY LI g d met =
    let R = W.the_row (param 0 Y) (param 1 I) in
    let P = param 0 I in
    let E = f.ended Y I g d in
    let stayed : Stays E.signature.params E.kept = (stay_dropped _ no, tt) in
    let c = f.clauses Y I g d 𝓛 𝓜.mem 𝓡.returns in
    let args : Args = bounded (a_type ∷ a_type ∷ []) (Y, (I, tt)) (dcons d dnil) in
    let callee : Contract 𝓤 = triple_of 𝓛 (inner.signature I) (inner.spec I g d 𝓛 𝓜.mem 𝓡.returns) in
    proved 𝓛 E stayed c 𝓜 𝓡 (Goes-spent_ref 𝓛 3 (0 ∷ []) tt (plain (λ _. R)), tt)
    (f.Key.name args) (inst_fn args code.function) (code.unfolded 𝓤 𝓛.H 𝓜 𝓡 wired (Y, (I, tt)) d)
    (λ κs. (mut_vals, tt)) (λ κs. (mut_Tells (named 0) κs.0 R, tt)) (λ κs qs bounds a _ are.
    let κ = κs.0 in let q = qs.0 in let κI = κs.1.1.0 in let qI = qs.1.1.0 in
    let r = a.0 in let b = r.ref_ptr.0 in let o = r.ref_ptr.1 in let γ = r.ghost_name in let x = r.now in
    let place = at Y I LY LI 𝓛 b o x in let Rest = Back Y I LY LI 𝓛 b o x in let back' = back Y I LY LI 𝓛 b o x in
    let F : I.Denot → R.Denot = λ w. record x { inner = w } in
    qed 𝓛 (((‵ (flft κ q) ⊛ ‵ (flft κs.1.0 qs.1.0) ⊛ ‵ (flft κI qI) ⊛ ‵ ftrue) ⊛ ‵ ((MutRef (named 0) κ R).own_val r (mut_vals r)) ⊛ ‵ ftrue)
    ∷ (given (κs.1.0 ⊑ Y.lives) (‵ ftrue) ⊛ given (κI ⊑ I.lives) (‵ ftrue) ⊛ ‵ ftrue) ∷ []) ∵
    move ! (1 ∷ []) $ split3 ! $ drop ! $ learn ! (λ le. drop ! $ drop ! $ split ! $ move ! (1 ∷ []) $ split ! $ fsplit3 ! $ drop ! $
    move ! (3 ∷ []) $ split3 ! $ move ! (2 ∷ []) $ split ! $ keep ! (4 ∷ 5 ∷ 2 ∷ 0 ∷ 3 ∷ []) $
    -- [obs; the borrow; its token; the inner stack's token; the layer's token]
    enter ! _ _ _ _ _ $ alloc_all ! (λ l. pass_all ! refl ((tt, tt), tt) $
    sets ! (addr ! (through ! refl (fld ! refl (stop !)))) refl (tt, tt) $ open_ref ! tt (mem R) {x = x} {b = b} {o = o} $
    use1 𝓛 (‵ (part_at P full_share x.inner b place) ⊛ raw Rest) (field_of Y I LY LI 𝓛 b o x) $ split ! $ move ! (2 ∷ 3 ∷ 4 ∷ 0 ∷ 1 ∷ []) $ group ! 5 $
    use1 𝓛 (later (some (λ (γ' : GName). raw (Part 𝓛 R P F (named 0) κ q b o b place γ Rest back' x.inner γ'))))
    (lends_Part 𝓛 R P F (named 0) κ q b o b place γ Rest back' (R.coded.code x) (R.coded.code x) x.inner) $ await ! tt $ pick ! (λ γ'.
    let part : MutBor I.Denot = record { ref_ptr = (b, place); ghost_name = γ'; now = x.inner } in
    let y : callee.Ghost = (((κ, (κI, tt)), (q, (qI, tt)), (bounds.1.0, tt), (part, tt), (mut_vals part, tt)), tt) in
    use1 𝓛 (‵ ((MutRef (named 0) κ P).own_val part (mut_vals part)) ⊛ ‵ (flft κ q) ⊛ ‵ (follows R P γ γ' F)) (id⊢ 𝓤 _) $ split3 ! $
    -- [the inner stack's reference; its token; what the layer follows; the inner stack's token; the layer's token]
    move ! (0 ∷ 1 ∷ 3 ∷ 2 ∷ []) $ use0 𝓛 (raw (fact 𝓤 (κI ⊑ I.lives))) (fact_i 𝓤 (κI ⊑ I.lives) (emp 𝓤) le) $ nothing ! $ move ! (1 ∷ 0 ∷ []) $ join ! $
    nothing ! $ move ! (2 ∷ 0 ∷ []) $ fjoin ! $ nothing ! $ move ! (4 ∷ 0 ∷ []) $ join ! $ move ! (3 ∷ 0 ∷ []) $ join ! $ join ! $ join ! $
    use1 𝓛 (raw (callee.pre y)) (id⊢ 𝓤 _) $
    calls_at ! (λ k. framed 𝓤 𝓛.H 𝓜 (tables 𝓤 𝓛.H 𝓜 𝓡 𝓡.env) k) callee met.root_mut y (and_then ! (get ! refl) (no_more !)) (λ v.
    use1 𝓛 (later (some (λ (s : MutBor N.the_row.Denot). ((‵ (flft κ q) ⊛ ‵ (flft κI qI) ⊛ ‵ ftrue) ⊛ ‵ ((MutRef (named 0) κ N.the_row).own_val s (v ∷ [])))
    ⊛ some (λ (ws : Unit {0} × Unit {0}). ‵ (fsep ftrue ftrue)
    ⊛ ‵ (follows P N.the_row γ' s.ghost_name (g.with_registry x.inner)) ⊛ given (s.now ≡ g.registry x.inner) (‵ ftrue))))) (id⊢ 𝓤 _) $ await ! tt $ pick ! (λ s.
    split ! $ move ! (1 ∷ [])
    $ pick ! (λ ws. split3 ! $ drop ! $ move ! (1 ∷ []) $ learn ! (λ value. drop ! $ move ! (1 ∷ []) $ split ! $ move ! (1 ∷ []) $ fsplit3 ! $ feq_l ! (λ e.
    lands_as ! (ap only e) refl (tt, tt) $ returns ! (look_at ! 0 refl) $ free_all ! refl $
    -- [obs; the borrow; the tokens; what the inner stack follows; what the layer follows; the layer's token]
    feq_i ! (List Val) (mut_vals s) (mut_vals s) refl $ fjoin3 ! $ move ! (3 ∷ 2 ∷ []) $
    use2 𝓛
    (‵ (follows R N.the_row γ s.ghost_name (λ w. F (g.with_registry x.inner w)))) (follows_then 𝓛 R P N.the_row F (g.with_registry x.inner) γ γ' s.ghost_name) $
    suffices ! _ (ends_at 𝓛 E stayed c ((κs, qs, bounds, a, (mut_vals r, tt)), tt) (vptr s.ref_ptr.0 s.ref_ptr.1) s (tt, tt) (tt, tt)) $
    nothing ! $ nothing ! $ fjoin ! $ move ! (0 ∷ 2 ∷ []) $ join ! $
    -- [what is left and the result; what follows; the tokens; the layer's token]
    move ! (2 ∷ []) $ split ! $ move ! (4 ∷ 1 ∷ []) $ join ! $ move ! (1 ∷ 0 ∷ []) $ join ! $ join ! $ frame ! $ says ! value $ done !)))))))))
