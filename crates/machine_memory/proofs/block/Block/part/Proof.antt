-- `part` hands on what two calls lend, one of the other: a walk of its MIR by hand.
use Rattle.std.proofs.Common.{◌≡◌, ℕ, ◌+◌, ◌≤◌, List, [], ◌∷◌, length, take, drop as drop_list}
use Rattle.std.proofs.Common.{refl, ap, ◌∙◌, w64, MutBor, arith}
use Rattle.std.proofs.raw_atomic.Walks.{proved}
use base.Fml.{ftrue, flft}
use base.Logic.{id⊢, emp}
use mir.Syntax.{named}
use mir.Val.{vint}
use contract.Monad.{fact}
use contract.Monad.{fact_i}
use contract.Running.{tables}
use types.Kit.{‵, raw, ◌⊛◌, some, later, ◌$◌, ◌∵◌, !, qed, done, move, keep, drop, use0, use1, use2}
use types.Kit.{split, join, fsplit, fjoin, pick, await, rewrite, suffices, frame}
use types.Run.{addr, stop, no_more, and_then, returns, enter}
use types.ByLocal.{alloc_all, pass_all, free_all, look_at, get, through, sets, lands_as}
use denote.Array.{Array}
use denote.Builtin.{u8, usize}
use denote.Exit.{yes, no}
use denote.Follow.{follows, follows_then}
use denote.Plain.{uint_vals, uint_Tells}
use denote.RattleType.{owns}
use denote.Ref.{MutRef, mut_vals, mut_Tells}
use denote.Shadow.{pure_i, pure_l}
use denote.Signature.{plain, mut_ref_to}
use denote.Slice.{MutSlice, slice_val, mut_slice_at, mut_slice_vals}
use denote.Steps.{nothing, heard, only}
use denote.Triple.Call.{calls_at}
use denote.Triple.Clauses.{lasts}
use denote.Triple.Spec.{triple_of}
use denote.Triple.Table.{framed}
use denote.Triple.Walked.{says, Stays, stay_dropped, Goes-dropped, Goes-spent_ref, ends_at}
use Rattle.machine_memory.specs.Writes.{lent_back}
use Rattle.machine_memory.specs.LentParts.{with_others}
use Rattle.machine_memory.specs.contracts.block.Block.{the_row as R}
use Rattle.machine_memory.specs.contracts.block.Block.part as f
use Rattle.machine_memory.specs.contracts.block.Block.whole as whole
use Rattle.machine_memory.specs.contracts.block.part_of as part
use Rattle.machine_memory.proofs.block.Block.whole.Met.{met as whole_met}
use Rattle.machine_memory.proofs.block.part_of.Met.{met as part_met}
use Rattle.machine_memory.proofs.block.Block.part.Statement.{statement}
use Rattle.machine_memory.proofs.block.Block.part.Code as code

abbrev stayed : Stays f.ended.signature.params f.ended.kept
stayed = (
  stay_dropped (mut_ref_to (0 ∷ []) tt (plain (λ _. R))) no,
  (stay_dropped (plain (λ _. usize)) yes, (stay_dropped (plain (λ _. usize)) yes, tt)),
)

pub part_spec : {M : Type 1} → statement M
part_spec 𝓤 𝓛 𝓜 𝓡 wired =
    let c = f.clauses 𝓛 𝓜.mem 𝓡.returns in
    proved 𝓛 f.ended stayed c 𝓜 𝓡 (
      Goes-spent_ref 𝓛 1 (0 ∷ []) tt (plain (λ _. R)),
      (
        Goes-dropped 𝓛 1 (plain (λ _. usize)) yes (λ κs x f. refl),
        (Goes-dropped 𝓛 1 (plain (λ _. usize)) yes (λ κs x f. refl), tt),
      ),
    )
    f.Key.name code.function (code.unfolded 𝓤 𝓛.H 𝓜 𝓡 wired)
    (λ κs. (mut_vals, (uint_vals w64, (uint_vals w64, tt))))
    (λ κs. (mut_Tells (named 0) κs.0 R, (uint_Tells w64, (uint_Tells w64, tt))))
    (λ κs qs bounds a _ are.
    let κ = κs.0 in let q = qs.0 in let x = a.0 in let i = a.1.0 in let n = a.1.1.0 in
    let Inside : Type 0 = i + n ≤ length x.now in
    let G₁ = triple_of 𝓛 whole.signature (whole.spec 𝓛 𝓜.mem 𝓡.returns) in
    let z₁ : G₁.Ghost = (((κ, tt), (q, tt), tt, (x, tt), (mut_vals x, tt)), tt) in
    let G₂ = triple_of 𝓛 part.signature (part.spec 𝓛 𝓜.mem 𝓡.returns) in
    qed 𝓛 (((‵ (flft κ q) ⊛ ‵ ftrue) ⊛ ‵ ((MutRef (named 0) κ R).own_val x (mut_vals x)) ⊛ ‵
    (owns (usize ∷ usize ∷ []) (i, (n, tt)) (vint w64 i ∷ [], (vint w64 n ∷ [], tt)))) ∷ raw
    (fact 𝓤 Inside) ∷ []) ∵
    move ! (1 ∷ []) $ heard ! Inside (λ inside. split ! $ move ! (1 ∷ []) $ split ! $
    enter ! _ _ _ _ _ $ alloc_all !
    (λ l. pass_all ! refl
    ((tt, tt), ((tt, record { fits = are.1.0.1 }), ((tt, record { fits = are.1.1.0.1 }), tt))) $
    sets ! (addr ! (through ! refl (stop !))) refl (tt, tt) $
    -- [the reference; the two numbers; the token; the locals]
    nothing ! $ move ! (1 ∷ 0 ∷ []) $ join ! $ move ! (2 ∷ 0 ∷ []) $ join ! $ nothing ! $ move !
    (1 ∷ 0 ∷ []) $ use2 𝓛 (raw (G₁.pre z₁)) (id⊢ 𝓤 _) $
    calls_at ! (framed 𝓤 𝓛.H 𝓜 (tables 𝓤 𝓛.H 𝓜 𝓡 𝓡.env)) G₁
    (whole_met 𝓤 𝓛 𝓜 𝓡 (code.calls-machine_memory::block::Block::whole 𝓡.env wired)) z₁
    (and_then ! (get ! refl) (no_more !)) (λ v.
    use1 𝓛 (later
    (some (λ (r : MutBor (List ℕ)).
    ((‵ (flft κ q) ⊛ ‵ ftrue) ⊛ ‵ ((MutSlice (named 0) κ u8).own_val r (v ∷ []))) ⊛
    some (λ (ws : Unit {0} × Unit {0}). ‵ (lasts whole.ended (κ, tt) (x, tt) ws) ⊛
    (‵ (follows R (Array u8 0) x.ghost_name r.ghost_name (with_others x.now)) ⊛ raw
    (fact 𝓤 (r.now ≡ x.now))))))) (id⊢ 𝓤 _) $
    await ! tt $ pick !
    (λ r. split ! $ split ! $ move ! (2 ∷ []) $ pick !
    (λ ws. split ! $ drop ! $ split ! $ move ! (1 ∷ []) $ heard ! (r.now ≡ x.now)
    (λ is.
    -- [what the bytes follow; the token; the whole slice; the two numbers; the locals]
    move ! (2 ∷ []) $ fsplit ! $ pure_l ! (mut_slice_at u8 r (v ∷ [])) (λ known.
    lands_as ! (ap only known.0) refl (tt, (tt, (record { fits = known.1.0 }, tt))) $
    pure_i ! (mut_slice_at u8 r (mut_slice_vals r)) (tt, (tt, tt)) (refl, known.1) $ fjoin ! $
    -- [the whole slice; what the bytes follow; the token; the two numbers; the locals]
    let Fits : Type 0 = i + n ≤ length r.now in
    let fits : Fits = (let long = ap (λ (xs : List ℕ). length xs) is in omega arith) in
    let z₂ : G₂.Ghost = (
      (
        (κ, tt),
        (q, tt),
        tt,
        (r, (i, (n, tt))),
        (mut_slice_vals r, (vint w64 i ∷ [], (vint w64 n ∷ [], tt))),
      ),
      tt,
    ) in
    move ! (0 ∷ 3 ∷ []) $ fjoin ! $ move ! (2 ∷ 0 ∷ []) $ join ! $
    use0 𝓛 (raw (fact 𝓤 Fits)) (fact_i 𝓤 Fits (emp 𝓤) fits) $ move ! (1 ∷ 0 ∷ []) $ use2 𝓛
    (raw (G₂.pre z₂)) (id⊢ 𝓤 _) $
    calls_at ! (framed 𝓤 𝓛.H 𝓜 (tables 𝓤 𝓛.H 𝓜 𝓡 𝓡.env)) G₂
    (part_met 𝓤 𝓛 𝓜 𝓡 (code.calls-machine_memory::block::part_of 𝓡.env wired)) z₂
    (and_then ! (get ! refl) (and_then ! (get ! refl) (and_then ! (get ! refl) (no_more !))))
    (λ v'.
    use1 𝓛 (later
    (some (λ (r' : MutBor (List ℕ)).
    ((‵ (flft κ q) ⊛ ‵ ftrue) ⊛ ‵ ((MutSlice (named 0) κ u8).own_val r' (v' ∷ []))) ⊛
    some (λ (ws' : Unit {0} × (Unit {0} × (Unit {0} × Unit {0}))). ‵
    (lasts part.ended (κ, tt) (r, (i, (n, tt))) ws') ⊛
    (‵ (follows (Array u8 0) (Array u8 0) r.ghost_name r'.ghost_name (lent_back r.now i n)) ⊛
    raw (fact 𝓤 (r'.now ≡ take n (drop_list i r.now)))))))) (id⊢ 𝓤 _) $
    await ! tt $ pick !
    (λ r'. split ! $ split ! $ move ! (2 ∷ []) $ pick !
    (λ ws'. split ! $ drop ! $ split ! $ move ! (1 ∷ []) $ heard !
    (r'.now ≡ take n (drop_list i r.now)) (λ is'.
    -- [what the whole slice follows; the token; the part; what the bytes follow; the locals]
    move ! (2 ∷ []) $ fsplit ! $ pure_l ! (mut_slice_at u8 r' (v' ∷ [])) (λ known'.
    lands_as ! (ap only known'.0) refl (tt, (tt, (record { fits = known'.1.0 }, tt))) $
    pure_i ! (mut_slice_at u8 r' (mut_slice_vals r')) (tt, (tt, tt)) (refl, known'.1) $ fjoin ! $
    returns ! (look_at ! 0 refl) $ free_all ! refl $
    -- [the part; what the whole slice follows; the token; what the bytes follow]
    move ! (3 ∷ 1 ∷ []) $ use2 𝓛
    (‵ (follows R (Array u8 0) x.ghost_name r'.ghost_name
    (λ w. with_others x.now (lent_back r.now i n w))))
    (follows_then 𝓛 R (Array u8 0) (Array u8 0) (with_others x.now) (lent_back r.now i n)
    x.ghost_name r.ghost_name r'.ghost_name) $
    rewrite ! 0 (λ (xs : List ℕ). ‵
    (follows R (Array u8 0) x.ghost_name r'.ghost_name
    (λ w. with_others x.now (lent_back xs i n w)))) is refl $
    move ! (2 ∷ []) $ split ! $ keep ! (3 ∷ 0 ∷ 2 ∷ []) $
    -- [the part; the token; what the bytes follow]
    suffices ! _
    (ends_at 𝓛 f.ended stayed c
    ((κs, qs, bounds, a, (mut_vals x, (vint w64 i ∷ [], (vint w64 n ∷ [], tt)))), tt)
    (slice_val r'.ref_ptr (length r'.now)) r' (tt, (tt, (tt, tt))) (tt, (tt, (tt, tt)))) $
    nothing ! $ nothing ! $ fjoin ! $ nothing ! $ fjoin ! $ nothing ! $ fjoin ! $ join ! $ nothing !
    $ move ! (2 ∷ 0 ∷ []) $ join ! $ join ! $ frame ! $ says !
    (is' ∙ ap (λ (xs : List ℕ). take n (drop_list i xs)) is) $ done !)))))))))))))
