-- A part of a slice is lent on as a slice, and the whole follows it. The part's last value has as
-- many elements as were lent, so the whole ends as any function says that puts so many back in
-- place.
use Rattle.std.proofs.Common.{◌≡◌, ℕ, ◌+◌, List, [], ◌∷◌, ◌++◌, length, refl, sym, ap, ◌∙◌, arith}
use Rattle.std.proofs.Common.{length-append}
use seplogic.Ra.Ura.{Ura}
use base.Fml.{Lft, GName, Share, flft, fobs, fbor}
use base.Logic.{SProp, ent, sep, ex}
use base.Stored.{coded_list}
use mir.Syntax.{named}
use mir.Val.{Val}
use borrow.Table.Elements.{at, cut_app, join_app}
use types.Logic.{Logic, sem}
use types.Kit.{Item, ‵, ◌⊛◌, some, later, ◌$◌, ◌∵◌, !, qed, move, drop, split, split3, join, fsplit}
use types.Kit.{fsplit3, fjoin, feq_l, feq_i, use1, use2, await, pick, updating, group, now, show}
use types.Kit.{rewrite, done}
use types.SemTy.{cells, Arr, Body}
use types.Follow.{takes_part}
use types.Mut.{open_ref}
use denote.RattleType.{RattleType}
use denote.Array.{Array}
use denote.Follow.{follows}
use denote.FollowSlice.{heres_id, slice_of}
use denote.Memory.{mem}
use denote.Slice.{MutSlice, Room, slice_val}

module _ (R : RattleType) {M : Type 1} {𝓤 : Ura M} (𝓛 : Logic 𝓤) (κ : Lft) (q : Share) (b o : ℕ)
    (γ : GName) (xs prefix mid back : List R.Denot) (cut : xs ≡ prefix ++ (mid ++ back)) (p : ℕ)
    (on : at o (mem R).size (length prefix) ≡ p)
    (after : List R.Denot → List R.Denot) (puts_back : (ws : List R.Denot) → length ws ≡ length mid
    → prefix ++ (ws ++ back) ≡ after ws) where
  open 𝓛 use {H, A}

  abbrev pub PartLent : GName → SProp 𝓤
  PartLent δ =
      sep 𝓤 (sem 𝓛
      ((MutSlice (named 0) κ R).own_val (record { ref_ptr = (b, p); ghost_name = δ; now = mid })
      (slice_val (b, p) (length mid) ∷ [])))
      (sep 𝓤 (A.lft κ q) (sem 𝓛 (follows (Array R 0) (Array R 0) γ δ after)))

  abbrev pub part_lent : GName → Item 𝓤
  part_lent δ =
      ‵ ((MutSlice (named 0) κ R).own_val (record { ref_ptr = (b, p); ghost_name = δ; now = mid })
      (slice_val (b, p) (length mid) ∷ [])) ⊛ ‵ (flft κ q) ⊛ ‵
      (follows (Array R 0) (Array R 0) γ δ after)

  -- what lies before and after the part
  abbrev Others : SProp 𝓤
  Others = sep 𝓤 (sem 𝓛 (cells (mem R) prefix b o))
      (sem 𝓛 (cells (mem R) back b (at p (mem R).size (length mid))))

  put_back : (ws : List R.Denot)
      → ent 𝓤 (sep 𝓤 (sem 𝓛 ((Arr (mem R) (length mid)).own_at ws b p)) Others)
      (sem 𝓛 ((Arr (mem R) (length xs)).own_at (after ws) b o))
  put_back ws =
      qed 𝓛 (‵ ((Arr (mem R) (length mid)).own_at ws b p) ∷ ‵ (cells (mem R) prefix b o) ∷ ‵
      (cells (mem R) back b (at p (mem R).size (length mid))) ∷ []) ∵
      fsplit ! $ feq_l ! (λ e.
      let whole : length xs ≡ length prefix + length (mid ++ back) = ap length cut
      ∙ length-append prefix (mid ++ back) in
      let inner : length (mid ++ back) ≡ length mid + length back = length-append mid back in
      let now_whole : length (prefix ++ (ws ++ back)) ≡ length prefix + length (ws ++ back) =
      length-append prefix (ws ++ back) in
      let now_inner : length (ws ++ back) ≡ length ws + length back = length-append ws back in
      let is : length (prefix ++ (ws ++ back)) ≡ length (after ws) = ap length (puts_back ws e) in
      rewrite ! 2 (λ (k : ℕ). ‵ (cells (mem R) back b (at p (mem R).size k))) (sym e) refl $ move !
      (0 ∷ 2 ∷ []) $
      use2 𝓛 (‵ (cells (mem R) (ws ++ back) b p)) (join_app 𝓛 (mem R) ws back b p) $
      rewrite ! 0 (λ (k : ℕ). ‵ (cells (mem R) (ws ++ back) b k)) (sym on) refl $ move !
      (1 ∷ 0 ∷ []) $
      use2 𝓛 (‵ (cells (mem R) (prefix ++ (ws ++ back)) b o))
      (join_app 𝓛 (mem R) prefix (ws ++ back) b o) $
      rewrite ! 0 (λ (l : List R.Denot). ‵ (cells (mem R) l b o)) (puts_back ws e) refl $
      feq_i ! ℕ (length (after ws)) (length xs) (omega arith) $ fjoin ! $ done !)

  pub lends_part : Room R (length mid) → (vs : List Val)
      → ent 𝓤 (sep 𝓤
      (sem 𝓛 ((MutSlice (named 0) κ R).own_val
      (record { ref_ptr = (b, o); ghost_name = γ; now = xs }) vs)) (A.lft κ q))
      (H.⇛ (ex 𝓤 PartLent))
  lends_part room vs =
      qed 𝓛 (‵ ((MutSlice (named 0) κ R).own_val
      (record { ref_ptr = (b, o); ghost_name = γ; now = xs }) vs) ∷ ‵ (flft κ q) ∷ []) ∵ updating !
      $ fsplit3 ! $ drop ! $
      rewrite ! 0 (λ (l : List R.Denot). ‵ (fobs γ ((coded_list R.coded).code l))) (heres_id R xs)
      refl $ open_ref ! tt (Arr (mem R) (length xs)) {b = b} {o = o} $ fsplit ! $ drop ! $
      rewrite ! 0 (λ (l : List R.Denot). ‵ (cells (mem R) l b o)) cut refl $
      use1 𝓛 (‵ (cells (mem R) prefix b o) ⊛ ‵
      (cells (mem R) (mid ++ back) b (at o (mem R).size (length prefix))))
      (cut_app 𝓛 (mem R) prefix (mid ++ back) b o) $ split ! $ move ! (1 ∷ []) $
      rewrite ! 0 (λ (k : ℕ). ‵ (cells (mem R) (mid ++ back) b k)) on refl $
      use1 𝓛 (‵ (cells (mem R) mid b p) ⊛ ‵ (cells (mem R) back b (at p (mem R).size (length mid))))
      (cut_app 𝓛 (mem R) mid back b p) $ split ! $
      feq_i ! ℕ (length mid) (length mid) refl $ fjoin ! $
      move ! (2 ∷ 1 ∷ []) $ join ! $ move ! (2 ∷ 3 ∷ 4 ∷ 1 ∷ 0 ∷ []) $ group ! 5 $
      use1 𝓛 (later
      (some (λ (δ : GName). ‵ (fobs δ ((coded_list R.coded).code mid)) ⊛ ‵
      (fbor κ (Body (Arr (mem R) (length mid)) b p δ)) ⊛ ‵ (flft κ q) ⊛ ‵
      (follows (Array R 0) (Array R 0) γ δ after))))
      (takes_part 𝓛 (Arr (mem R) (length xs)) (Arr (mem R) (length mid)) after κ q b o b p γ Others
      put_back ((coded_list R.coded).code xs) ((coded_list R.coded).code xs) mid) $ await ! tt $
      pick ! (λ δ. split3 ! $
      use2 𝓛 (‵ ((MutSlice (named 0) κ R).own_val
      (record { ref_ptr = (b, p); ghost_name = δ; now = mid })
      (slice_val (b, p) (length mid) ∷ []))) (slice_of 𝓛 R (named 0) κ b p δ mid room) $ now ! $
      show ! PartLent δ $ done !)
