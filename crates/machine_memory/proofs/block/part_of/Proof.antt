-- `part_of` lends a part of a slice: a walk of its MIR by hand.
use Rattle.std.proofs.Common.{◌≡◌, ℕ, ◌+◌, ◌-◌, ◌*◌, ◌^◌, ◌<◌, ◌≤◌, List, [], ◌∷◌, ◌++◌, length}
use Rattle.std.proofs.Common.{take, drop as drop_list, sym, refl, ap, ◌∙◌, arith, w64, MutBor}
use Rattle.std.proofs.Common.{length-drop}
use Rattle.std.proofs.lemmas.List.{take-append-drop, length-take-le}
use seplogic.Ra.Ura.{Ura}
use mir.Syntax.{named}
use mir.Val.{Val, vint}
use base.Logic.{SProp, ent}
use base.Fml.{Lft, GName, Share, ftrue, flft}
use borrow.Table.Elements.{at, at_mul}
use prog.Memory.{Memory}
use prog.Routine.{Routine}
use prog.Wp.{Calls, Loops, WpFn, Tables}
use types.Logic.{Logic}
use contract.Monad.{Fun}
use contract.Running.{tables, tables_of}
use sound.WpLaws.{WpFn-mono}
use types.Kit.{‵, ◌⊛◌, some, later, ◌$◌, ◌∵◌, !, qed, move, keep, split, split3, join, fsplit}
use types.Kit.{fjoin, use2, await, pick, rewrite, suffices, frame, done}
use types.Part.{whole, sub, agg}
use types.Run.{stop, fld, addr, bin, and_then, no_more, returns, enter}
use types.ByLocal.{alloc_all, pass_all, free_all, look_at, get, get_in, through, sets}
use denote.Exit.{yes, no}
use denote.RattleType.{owns}
use denote.Plain.{uint_vals, uint_Tells}
use denote.Slice.{MutSlice, Room, slice_val, mut_slice_vals, mut_slice_Tells}
use denote.Builtin.{u8, usize}
use denote.Signature.{plain, mut_slice_of}
use denote.Steps.{nothing}
use denote.Triple.Clauses.{Clauses}
use denote.Triple.Entry.{on_entry}
use denote.Triple.Spec.{Meets, triple_of}
use denote.Triple.Table.{entered}
use denote.Triple.Walked.{says, needs, Stays, stay_dropped, walk_of, ends_at, walked, Goes-dropped}
use denote.Triple.Walked.{Goes-spent_slice, walk_Meets}
use Rattle.machine_memory.proofs.PartLent.{part_lent, lends_part}
use Rattle.machine_memory.specs.Writes.{lent_back}
use Rattle.machine_memory.proofs.Pieces.{lent_back-long}
use Rattle.machine_memory.specs.contracts.block.part_of.Key.{name as #self}
use Rattle.machine_memory.specs.contracts.block.part_of as part
use Rattle.machine_memory.proofs.block.part_of.Statement as stated
use Rattle.machine_memory.proofs.block.part_of.Code as code

-- nothing is left of the slice and of the two numbers
abbrev stayed : Stays (part.ended).signature.params (part.ended).kept
stayed = (
  stay_dropped (mut_slice_of (0 ∷ []) tt (plain (λ _. u8))) no,
  (stay_dropped (plain (λ _. usize)) yes, (stay_dropped (plain (λ _. usize)) yes, tt)),
)

module _ {M : Type 1} {𝓤 : Ura M} (𝓛 : Logic 𝓤) (at_mem : Memory → SProp 𝓤) (run : Routine → Fun 𝓤)
  where
    open 𝓛 use {H}

    abbrev clauses : Clauses 𝓤 part.ended
    clauses = part.clauses 𝓛 at_mem run

    -- the slice is lent for κ, lies at the offset o of the block b, is named γ and holds xs
    module _ (κ : Lft) (q : Share) (b o : ℕ) (γ : GName) (xs : List ℕ) (i n : ℕ) where
      abbrev self : MutBor (List ℕ)
      self = record { ref_ptr = (b, o); ghost_name = γ; now = xs }

      abbrev words : List Val × (List Val × (List Val × Unit {0}))
      words = (mut_slice_vals self, (vint w64 i ∷ [], (vint w64 n ∷ [], tt)))

      abbrev bound : (walk_of 𝓛 part.ended stayed clauses).Ghost
      bound = (((κ, tt), (q, tt), tt, (self, (i, (n, tt))), words), tt)

      abbrev Post : Val → SProp 𝓤
      Post = (walk_of 𝓛 part.ended stayed clauses).post bound

      module _ (C : Calls 𝓤 H) (Λ : Loops 𝓤 H) where
        walk : Room u8 (length xs) → i < 2 ^ 64 → n < 2 ^ 64 → i + n ≤ length xs
            → ent 𝓤 (on_entry 𝓛 part.signature (κ, tt) (q, tt) (self, (i, (n, tt))) words)
            (WpFn 𝓤 H C Λ code.function
            (slice_val (b, o) (length xs) ∷ vint w64 i ∷ vint w64 n ∷ []) Post)
        walk room fi fn inside =
            let prefix : List ℕ = take i xs in
            let mid : List ℕ = take n (drop_list i xs) in
            let back : List ℕ = drop_list n (drop_list i xs) in
            let count : length xs < 2 ^ 64 = room.0 in
            let fe : i + n < 2 ^ 64 = omega arith in
            let lf : length prefix ≡ i = length-take-le i xs (omega arith) in
            let lb : length (drop_list i xs) ≡ length xs - i = length-drop i xs in
            let long : length mid ≡ n = length-take-le n (drop_list i xs) (omega arith) in
            let m_is : length mid ≡ (i + n) - i = omega arith in
            let fm : (i + n) - i < 2 ^ 64 = omega arith in
            let on : at o 1 (length prefix) ≡ i + o = at_mul o 1 (length prefix)
            ∙ (let e : length prefix * 1 + o ≡ i + o = omega arith in e) in
            let cut : xs ≡ prefix ++ (mid ++ back) = sym (take-append-drop i xs)
            ∙ ap (λ (l : List ℕ). prefix ++ l) (sym (take-append-drop n (drop_list i xs))) in
            let puts : (ws : List ℕ) → length ws ≡ length mid
            → prefix ++ (ws ++ back) ≡ lent_back xs i n ws =
            λ ws e. lent_back-long xs i n ws (e ∙ long) in
            let part_room : Room u8 (length mid) =
            (omega arith, (let bytes : length xs * 1 < 2 ^ 63 = room.1 in omega arith)) in
            qed 𝓛 ((‵ (flft κ q) ⊛ ‵ ftrue) ∷ ‵
            (owns (MutSlice (named 0) κ u8 ∷ usize ∷ usize ∷ []) (self, (i, (n, tt))) words) ∷ [])
            ∵
            enter ! C Λ code.function (slice_val (b, o) (length xs) ∷ vint w64 i ∷ vint w64 n ∷ [])
            _
            $
            alloc_all ! (λ l. pass_all ! refl (
              (tt, (tt, (record { fits = count }, tt))),
              ((tt, record { fits = fi }), ((tt, record { fits = fn }), tt)),
            ) $
            -- the end, the pointer to the part, its length, and the reference of both
            sets ! (bin ! (get ! refl) (get ! refl) (record { fits = fe })) refl
            (tt, record { fits = fe }) $
            sets ! (bin ! (get_in ! (fld ! refl (stop !)) (sub ! 0 refl (whole !))) (get ! refl) tt)
            refl (tt, tt) $
            sets ! (bin ! (get ! refl) (get ! refl) (let low : i ≤ i + n = omega arith in low)) refl
            (tt, record { fits = fm }) $
            sets ! (addr ! (through ! refl (stop !))) refl (tt, tt) $
            sets ! (agg ! (and_then ! (get ! refl) (and_then ! (get ! refl) (no_more !)))) refl
            (tt, (tt, (record { fits = fm }, tt))) $
            split ! $ move ! (2 ∷ []) $ fsplit ! $ move ! (0 ∷ 2 ∷ []) $
            use2 𝓛 (later
            (some (part_lent u8 𝓛 κ q b o γ xs prefix mid back cut (i + o) on (lent_back xs i n)
            puts)))
            (lends_part u8 𝓛 κ q b o γ xs prefix mid back cut (i + o) on (lent_back xs i n) puts
            part_room (mut_slice_vals self)) $ await ! tt $ pick ! (λ δ.
            returns ! (look_at ! 0 refl) $ free_all ! refl $ keep ! (0 ∷ []) $ split3 ! $
            rewrite ! 0 (λ (k : ℕ). ‵
            ((MutSlice (named 0) κ u8).own_val
            (record { ref_ptr = (b, i + o); ghost_name = δ; now = mid })
            (slice_val (b, i + o) k ∷ []))) m_is refl $
            suffices ! _
            (ends_at 𝓛 part.ended stayed clauses bound (slice_val (b, i + o) ((i + n) - i))
            (record { ref_ptr = (b, i + o); ghost_name = δ; now = mid }) (tt, (tt, (tt, tt)))
            (tt, (tt, (tt, tt)))) $
            nothing ! $ nothing ! $ fjoin ! $ nothing ! $ fjoin ! $ nothing ! $ fjoin ! $ join ! $
            nothing ! $ move ! (2 ∷ 0 ∷ []) $ join ! $ join ! $ frame ! $ says ! refl $ done !))

    meets : (𝓣 : Tables 𝓤 H)
        → Meets 𝓛 part.signature (WpFn 𝓤 H 𝓣.C 𝓣.Λ code.function) (part.spec 𝓛 at_mem run)
    meets 𝓣 =
        walk_Meets 𝓛 part.ended stayed (
          Goes-spent_slice 𝓛 1 (0 ∷ []) tt (plain (λ _. u8)),
          (
            Goes-dropped 𝓛 1 (plain (λ _. usize)) yes (λ κs x f. refl),
            (Goes-dropped 𝓛 1 (plain (λ _. usize)) yes (λ κs x f. refl), tt),
          ),
        )
        clauses (WpFn 𝓤 H 𝓣.C 𝓣.Λ code.function) (WpFn-mono 𝓤 H 𝓛.laws 𝓣 code.function)
        (walked 𝓛 part.ended stayed clauses (WpFn 𝓤 H 𝓣.C 𝓣.Λ code.function)
        (λ κs. (mut_slice_vals, (uint_vals w64, (uint_vals w64, tt))))
        (λ κs. (mut_slice_Tells (named 0) κs.0 u8, (uint_Tells w64, (uint_Tells w64, tt))))
        (λ κs qs bounds a g are. needs 𝓤 (a.1.0 + a.1.1.0 ≤ length a.0.now) _
        (walk κs.0 qs.0 a.0.ref_ptr.0 a.0.ref_ptr.1 a.0.ghost_name a.0.now a.1.0 a.1.1.0 𝓣.C 𝓣.Λ
        are.0.0.1 are.1.0.1 are.1.1.0.1)))

pub part_of_spec : {M : Type 1} → stated.statement M
unfolding tables_of
part_of_spec 𝓤 𝓛 𝓜 𝓡 wired =
    entered 𝓤 𝓛.H (triple_of 𝓛 part.signature (part.spec 𝓛 𝓜.mem 𝓡.returns))
    (tables 𝓤 𝓛.H 𝓜 𝓡 𝓡.env).C (tables 𝓤 𝓛.H 𝓜 𝓡 𝓡.env).Λ #self code.function
    (code.unfolded 𝓤 𝓛.H 𝓜 𝓡 wired)
    (meets 𝓛 𝓜.mem 𝓡.returns (tables_of 𝓤 𝓛.H 𝓜 (tables 𝓤 𝓛.H 𝓜 𝓡 𝓡.env)))
