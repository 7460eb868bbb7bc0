-- A turn's writes, one after another.
use Rattle.std.proofs.Common.{◌≡◌, ℕ, ◌+◌, ◌<◌, List, [], ◌∷◌, ◌++◌, length, take, drop, map}
use Rattle.std.proofs.Common.{filter, fold, get_or, set, refl, sym, ap, ◌∙◌, inl, inr, arith, Bool}
use Rattle.std.proofs.Common.{true, false, cond}
use Rattle.std.proofs.lemmas.Bool.{cases_Bool}
use Rattle.std.proofs.lemmas.List.{length-map, length-take-le, take_more, drop_more, map_more}
use Rattle.std.proofs.lemmas.List.{set_at, get_or_at, append_assoc}
use Rattle.machine_memory.specs.Contents.{Contents}
use Rattle.machine_memory.specs.Spans.{with_bytes}
use Rattle.machine_memory.specs.DeviceWrites.{may_write, after_device_write}
use Rattle.machine_memory.specs.ArmedWrites.{Armed, is_due, memory_after_turn, ended_by}

-- a list of which the first elements were rewritten, one by one

pub at_turn : {A : Type 0} (f : A → A) (list now : List A) (i : ℕ) (x : A) → i < length list
    → now ≡ map f (take i list) ++ drop i list → x ≡ get_or now i x → x ≡ get_or list i x
at_turn f list now i x h e is =
    let long : length (map f (take i list)) ≡ i = length-map (take i list) f
    ∙ length-take-le i list (omega arith) in
    is ∙ ap (λ (xs : List _). get_or xs i x)
    (e ∙ ap (λ (xs : List _). map f (take i list) ++ xs) (drop_more list i x h))
    ∙ get_or_at (map f (take i list)) (get_or list i x) (drop (i + 1) list) x i long

pub rewritten_more : {A : Type 0} (f : A → A) (list now : List A) (i : ℕ) (x y : A)
    → i < length list → now ≡ map f (take i list) ++ drop i list → x ≡ get_or list i x → y ≡ f x
    → set now i y ≡ map f (take (i + 1) list) ++ drop (i + 1) list
rewritten_more f list now i x y h e is gives =
    let long : length (map f (take i list)) ≡ i = length-map (take i list) f
    ∙ length-take-le i list (omega arith) in
    ap (λ (xs : List _). set xs i y)
    (e ∙ ap (λ (xs : List _). map f (take i list) ++ xs) (drop_more list i x h))
    ∙ set_at (map f (take i list)) (get_or list i x) (drop (i + 1) list) y i long
    ∙ ap (λ z. map f (take i list) ++ z ∷ drop (i + 1) list) (gives ∙ ap f is)
    ∙ sym (append_assoc (map f (take i list)) (f (get_or list i x) ∷ []) (drop (i + 1) list))
    ∙ ap (λ (xs : List _). xs ++ drop (i + 1) list) (sym (map_more f list i x h))

-- a fold over what passes a test, with one element more
fold-filter_push : {A B : Type 0} (step : B → A → B) (test : A → Bool) (list : List A) (start : B)
    (x : A) → fold step start (filter test (list ++ x ∷ []))
    ≡ cond (test x) (step (fold step start (filter test list)) x)
    (fold step start (filter test list))
fold-filter_push step test [] start x =
    elim (test x) as
    (λ b. fold step start (cond b (x ∷ []) []) ≡ cond b (step start x) start) [
      | true ↦ refl
      | false ↦ refl
    ]
fold-filter_push step test (y ∷ list) start x =
    elim (cases_Bool (test y)) [
      | inl e ↦ rw e (fold-filter_push step test list (step start y) x)
      | inr e ↦ rw e (fold-filter_push step test list start x)
    ]

pub memory_after_turn-more : (turn : ℕ) (memory : Contents) (writes : List Armed) (i : ℕ)
    (write : Armed) → i < length writes → write ≡ get_or writes i write
    → memory_after_turn turn memory (take (i + 1) writes)
    ≡ cond (is_due turn write)
    (after_device_write (memory_after_turn turn memory (take i writes)) write.at write.bytes)
    (memory_after_turn turn memory (take i writes))
memory_after_turn-more turn memory writes i write h is =
    ap (memory_after_turn turn memory)
    (take_more writes i write h ∙ ap (λ (w : Armed). take i writes ++ w ∷ []) (sym is))
    ∙ fold-filter_push (λ m w. after_device_write m w.at w.bytes) (is_due turn) (take i writes)
    memory write

-- a device changes no mark and no exclusion bit
pub record SameFrames (old new : Contents) : Type 0 where
  pub marks : new.marks ≡ old.marks
  pub excluded : new.excluded ≡ old.excluded

frames_if : (writes : Bool) (memory : Contents) (at : ℕ) (bytes : List ℕ)
    → SameFrames memory (cond writes (with_bytes memory at bytes) memory)
frames_if true memory at bytes = record { marks = refl; excluded = refl }
frames_if false memory at bytes = record { marks = refl; excluded = refl }

frames_if_due : (due : Bool) (memory : Contents) (at : ℕ) (bytes : List ℕ)
    → SameFrames memory (cond due (after_device_write memory at bytes) memory)
frames_if_due true memory at bytes =
    frames_if (may_write memory.excluded at (length bytes)) memory at bytes
frames_if_due false memory at bytes = record { marks = refl; excluded = refl }

-- so many writes of the list were looked at
pub record IsRun (turn : ℕ) (start : Contents) (writes : List Armed) (done : ℕ) (memory : Contents)
    (now : List Armed) : Type 0 where
  pub memory_is : memory ≡ memory_after_turn turn start (take done writes)
  pub frames : SameFrames start memory
  pub writes_are : now ≡ map (ended_by turn start.excluded) (take done writes) ++ drop done writes

pub run_none : (turn : ℕ) (start : Contents) (writes : List Armed)
    → IsRun turn start writes 0 start writes
run_none turn start writes =
    record {
      memory_is = refl;
      frames = record { marks = refl; excluded = refl };
      writes_are = refl;
    }

pub run_more : (turn : ℕ) (start : Contents) (writes : List Armed) (done : ℕ)
    (memory after : Contents) (now : List Armed) (write left : Armed)
    → IsRun turn start writes done memory now → done < length writes → write ≡ get_or now done write
    → after ≡ cond (is_due turn write) (after_device_write memory write.at write.bytes) memory
    → left ≡ ended_by turn memory.excluded write
    → IsRun turn start writes (done + 1) after (set now done left)
run_more turn start writes done memory after now write left run h at gives leaves =
    let is = at_turn (ended_by turn start.excluded) writes now done write h run.writes_are at in
    let kept = frames_if_due (is_due turn write) memory write.at write.bytes in
    record {
      memory_is = gives
          ∙ ap (λ (m : Contents). cond (is_due turn write)
          (after_device_write m write.at write.bytes) m) run.memory_is
          ∙ sym (memory_after_turn-more turn start writes done write h is);
      frames = rw gives
          (record {
            marks = kept.marks ∙ run.frames.marks;
            excluded = kept.excluded
                ∙ run.frames.excluded;
          });
      writes_are =
          rewritten_more (ended_by turn start.excluded) writes now done write left h run.writes_are
          is
          (leaves ∙ ap (λ (bits : List Bool). ended_by turn bits write) run.frames.excluded);
    }
