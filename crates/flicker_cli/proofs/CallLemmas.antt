-- What a call's end says of its status, and of what the bytes taken are.
use Rattle.std.proofs.Common.{◌≡◌, ◌⊎◌, inl, inr, ℕ, ◌+◌, ◌≤◌, Bool, true, false, List, [], ◌++◌, length, refl, sym, ap, ◌∙◌, subst, arith, append-nil, length-append}
use Rattle.std.specs.Prelude.{Option, Some, None, nat_lt}
use Rattle.std.specs.FinMap.{empty}
use Rattle.std.specs.Option.{option_map}
use Rattle.std.specs.Io.KnownBytes.{Consumes}
use Rattle.std.proofs.KnownBytes.{Consumes-nil}
use Rattle.std.proofs.lemmas.Bool.Decides.{nat_tests}
use Rattle.flk_base.specs.Causes.{Rose}
use Rattle.flk_base.specs.Streams.{Intake, Output, Takes, IsSettled}
use Rattle.flk_base.specs.RunEnds.{HasCauses, mapped_end}
use Rattle.flk_base.specs.declared.run_end.RunEnd.{RunEnd}
use Rattle.flk_base.specs.declared.run_end.RunEnd.TheVariants.{Done, Bad, ReadFault, Cut, NoMemory}
use Rattle.flk_base.specs.declared.streams.PutFault.{PutFault}
use Rattle.flk_base.specs.declared.streams.PutFault.TheVariants as put
use Rattle.flk_run.specs.declared.run.ScriptFault.{ScriptFault}
use Rattle.seal_device.specs.Digests.{digests}
use Rattle.seal_device.specs.Lists.{lists}
use Rattle.seal_device.specs.Rules.{Rules}
use Rattle.late_launch.specs.Boards.{BoardParts}
use Rattle.flk_run.specs.Agreement.{AgreesByLists, NothingComparedBy}
use Rattle.flk_run.specs.Platform.{Platform, ListPlatform, DigestPlatform, platform_digested, at_rest}
use Rattle.job_store.specs.Simulated.{Simulated}
use Rattle.flk_run.specs.Parts.{Experiment, platform_of, known_if, platform}
use Rattle.flk_run.proofs.AgreementLemmas.{run_from}
use Rattle.flk_run.specs.Runs.{Ran, AllDone, bad_in}
use Rattle.flk_base.proofs.TakenLemmas.{the_end, says_end}
use Rattle.flk_filters.specs.declared.fault.BadInput.{BadInput}
use Rattle.flk_filters.specs.declared.fault.BadInput.TheVariants.{TooLong, Denied}
use Rattle.flk_filters.specs.declared.filter.Filter.{Filter as Which}
use Rattle.flk_filters.specs.declared.filter.Filter.TheVariants.{Asm, Dis, Measure, Verify}
use Rattle.flk_filters.specs.Filters.{most_input, fault_in}
use Rattle.flk_filters.specs.Inputs.{IsInput, FilterRan, Filtered, Refused}
use Rattle.flicker_cli.proofs.DenialLemmas.{only_verify, denied_claim}
use Rattle.flicker_cli.specs.declared.words.Command.{Command}
use Rattle.flicker_cli.specs.declared.words.Command.TheVariants.{Run, Filter}
use Rattle.flicker_cli.specs.declared.fault.Fault.{Fault}
use Rattle.flicker_cli.specs.declared.fault.Fault.TheVariants.{Words, Script, Input}
use Rattle.flicker_cli.specs.Messages.{message_of, input_status, status_of}
use Rattle.flicker_cli.specs.Calls.{ScriptRan, InputRan, CallRan, Reported, status_after, Answered, AnsweredTwice, call_done}
use Rattle.flicker_cli.specs.Texts.{script_end, input_end, end_on, IsText, IsTextStatus, IsDenied}

-- ---- what the bytes taken are

-- the end is that of the bytes taken, whatever follows them
pub record Judged (task : Option Command) (end : RunEnd Fault) (before now : Option (List ℕ)) : Type 0 where
  pub taken : List ℕ
  pub ended : Bool
  pub takes : Takes before now taken ended
  pub settled : IsSettled (end_on task) taken ended end
  pub read : end ≡ Done → ended ≡ true
  pub denied : end ≡ Bad (Input Denied) → ended ≡ true

-- words that are no command
judged_words : (before now : Option (List ℕ)) → now ≡ before → Judged None (Bad Words) before now
judged_words before now same = record {
  taken = [];
  ended = the_end false now;
  takes = record { consumed = subst (λ o. Consumes before o []) (sym same) (Consumes-nil before); end = says_end false now (λ seen. absurd (cc)) };
  settled = record { is = refl; stays = λ more ends. refl };
  read = λ done. absurd (cc);
  denied = λ one. absurd (cc);
}

-- no script is denied
never_denied : (bad : Option ScriptFault) → script_end bad ≡ Bad (Input Denied) → ⊥
never_denied None is = cc
never_denied (Some first) is = cc

-- a script
judged_script : {H M : Type 0} (R : Rules H M) (source source' out out' : Option (List ℕ)) (old new : Option (Platform H M)) (bad : Option ScriptFault) → AllDone R source source' out out' old new bad
    → (script_end bad ≡ Done → bad ≡ None) → Judged (Some Run) (script_end bad) source source'
judged_script R source source' out out' old new bad d none = record {
  taken = d.taken;
  ended = d.ended;
  takes = d.takes;
  settled = record { is = ap script_end d.judged.is; stays = λ more ends. ap script_end (d.judged.stays more ends) };
  read = λ done. d.read (none done);
  denied = λ one. absurd (never_denied bad one);
}

-- an input with more bytes than it may have, however many more
too_long : (which : Which) (input : List ℕ) → most_input + 1 ≤ length input → fault_in which input ≡ Some TooLong
too_long Asm input long = let t : nat_lt most_input (length input) ≡ true = grind (arith, nat_tests, long) in rw t refl
too_long Dis input long = let t : nat_lt most_input (length input) ≡ true = grind (arith, nat_tests, long) in rw t refl
too_long Measure input long = let t : nat_lt most_input (length input) ≡ true = grind (arith, nat_tests, long) in rw t refl
too_long Verify input long = let t : nat_lt most_input (length input) ≡ true = grind (arith, nat_tests, long) in rw t refl

-- a longer input has the same fault, where it may be longer
settled_input : (which : Which) (taken : List ℕ) (ended : Bool) (fault : Option BadInput) → IsInput taken ended → fault_in which taken ≡ fault → IsSettled (end_on (Some (Filter which))) taken ended (input_end fault)
settled_input which taken ended fault input is = record {
  is = ap input_end is;
  stays = λ more ends. elim input.whole [
    | inl all ↦ ap (λ bytes. input_end (fault_in which bytes)) (ap (λ m. taken ++ m) (ends all) ∙ append-nil taken) ∙ ap input_end is
    | inr long ↦ ap input_end (too_long which (taken ++ more) (omega (arith, long, length-append taken more)) ∙ sym (too_long which taken (omega (arith, long))) ∙ is)
  ];
}

-- an input without a fault is all of the source
all_read : (which : Which) (taken : List ℕ) (ended : Bool) → IsInput taken ended → fault_in which taken ≡ None → ended ≡ true
all_read which taken ended input good = elim input.whole [
  | inl end ↦ end
  | inr long ↦ let e : None ≡ Some TooLong = sym good ∙ too_long which taken (omega (arith, long)) in cc
]

-- so is an input that is denied
denied_read : (which : Which) (taken : List ℕ) (ended : Bool) (bad : BadInput) → IsInput taken ended → fault_in which taken ≡ Some bad → bad ≡ Denied → ended ≡ true
denied_read which taken ended bad input is denied = elim input.whole [
  | inl end ↦ end
  | inr long ↦ let e : Some bad ≡ Some TooLong = sym is ∙ too_long which taken (omega (arith, long)) in cc
]

judged_filtered : (which : Which) (source source' out out' : Option (List ℕ)) → Filtered which source source' out out' → Judged (Some (Filter which)) Done source source'
judged_filtered which source source' out out' d = record {
  taken = d.taken;
  ended = d.takes.ended;
  takes = d.takes.takes;
  settled = settled_input which d.taken d.takes.ended None d.takes.input d.makes.good;
  read = λ done. all_read which d.taken d.takes.ended d.takes.input d.makes.good;
  denied = λ one. absurd (cc);
}

judged_refused : (which : Which) (source source' out out' : Option (List ℕ)) (bad : BadInput) → Refused which source source' out out' bad → Judged (Some (Filter which)) (Bad (Input bad)) source source'
judged_refused which source source' out out' bad d = record {
  taken = d.taken;
  ended = d.takes.ended;
  takes = d.takes.takes;
  settled = settled_input which d.taken d.takes.ended (Some bad) d.takes.input d.fault;
  read = λ done. absurd (cc);
  denied = λ one. denied_read which d.taken d.takes.ended bad d.takes.input d.fault (let same : bad ≡ Denied = cc in same);
}

-- ---- each end

-- all was done, or something is not of its form
abbrev pub IsTextEnd : RunEnd Fault → Type 0
IsTextEnd Done = Unit {0}
IsTextEnd (Bad fault) = Unit {0}
IsTextEnd other = ⊥

module _ {H M : Type 0} (R : Rules H M) (source : Intake) (out : Output) (old new : Option (Platform H M)) where
  by_script : (end : RunEnd Fault) → IsTextEnd end → ScriptRan R end source out old new → Judged (Some Run) end source.old.left source.new.left
  by_script end is d = subst (λ (e : RunEnd Fault). Judged (Some Run) e source.old.left source.new.left) (sym d.is) (how_it_ran d.how (subst IsTextEnd d.is is) d.ran) where
    how_it_ran : (how : RunEnd ScriptFault) → IsTextEnd (mapped_end Script how) → Ran R how source out old d.reached → Judged (Some Run) (mapped_end Script how) source.old.left source.new.left
    how_it_ran Done is ran = judged_script R source.old.left source.new.left out.old.contents out.new.contents _ _ None ran (λ e. refl)
    how_it_ran (Bad first) is ran = judged_script R source.old.left source.new.left out.old.contents out.new.contents _ _ (Some first) ran (λ e. cc)
    how_it_ran ReadFault is ran = absurd is
    how_it_ran (Cut fault) is ran = absurd is
    how_it_ran NoMemory is ran = absurd is

  by_filter : (which : Which) (end : RunEnd Fault) → IsTextEnd end → InputRan which end source out old new → Judged (Some (Filter which)) end source.old.left source.new.left
  by_filter which end is d = subst (λ (e : RunEnd Fault). Judged (Some (Filter which)) e source.old.left source.new.left) (sym d.is) (how_it_ran d.how (subst IsTextEnd d.is is) d.ran) where
    how_it_ran : (how : RunEnd BadInput) → IsTextEnd (mapped_end Input how) → FilterRan which how source out → Judged (Some (Filter which)) (mapped_end Input how) source.old.left source.new.left
    how_it_ran Done is ran = judged_filtered which source.old.left source.new.left out.old.contents out.new.contents ran
    how_it_ran (Bad bad) is ran = judged_refused which source.old.left source.new.left out.old.contents out.new.contents bad ran
    how_it_ran ReadFault is ran = absurd is
    how_it_ran (Cut fault) is ran = absurd is
    how_it_ran NoMemory is ran = absurd is

  -- the end of a call is that of the bytes taken
  pub judged_call : (task : Option Command) (end : RunEnd Fault) → IsTextEnd end → CallRan R task end source out old new → Judged task end source.old.left source.new.left
  judged_call None end is ran = subst (λ (e : RunEnd Fault). Judged None e source.old.left source.new.left) (sym ran.0) (judged_words source.old.left source.new.left ran.1.unread)
  judged_call (Some Run) end is ran = by_script end is ran
  judged_call (Some (Filter which)) end is ran = by_filter which end is ran

  -- only words that are no command end with them
  pub no_command : (task : Option Command) (end : RunEnd Fault) → CallRan R task end source out old new → end ≡ Bad Words → task ≡ None
  no_command None end ran words = refl
  no_command (Some Run) end ran words = absurd (never_script ran.how (sym ran.is ∙ words)) where
    never_script : (how : RunEnd ScriptFault) → mapped_end Script how ≡ Bad Words → ⊥
    never_script Done e = cc
    never_script (Bad first) e = cc
    never_script ReadFault e = cc
    never_script (Cut fault) e = cc
    never_script NoMemory e = cc
  no_command (Some (Filter which)) end ran words = absurd (never_filter ran.how (sym ran.is ∙ words)) where
    never_filter : (how : RunEnd BadInput) → mapped_end Input how ≡ Bad Words → ⊥
    never_filter Done e = cc
    never_filter (Bad bad) e = cc
    never_filter ReadFault e = cc
    never_filter (Cut fault) e = cc
    never_filter NoMemory e = cc

  pub words_end : (end : RunEnd Fault) → CallRan R None end source out old new → end ≡ Bad Words
  words_end end ran = ran.0

-- ---- calls

-- memory ran out before anything was begun
pub no_room : {H M : Type 0} (R : Rules H M) (command : Command) (source : Intake) (out : Output) (platform : Option (Platform H M)) → platform ≡ option_map at_rest platform → source.IsUntouched → out.new.contents ≡ out.old.contents
    → CallRan R (Some command) NoMemory source out platform platform
no_room R Run source out platform unnamed same unwritten = record { how = NoMemory; is = refl; reached = platform; ran = inl (same, record { unwritten = unwritten; kept = refl }); left = unnamed }
no_room R (Filter which) source out platform unnamed same unwritten = record { how = NoMemory; is = refl; ran = inl (same, unwritten); kept = refl }

-- a platform with no name bound is as it is without names
pub no_names : (untaken : Bool) (board : BoardParts) (disk : Simulated) → known_if untaken (platform_of board [] disk empty) ≡ option_map at_rest (known_if untaken (platform_of board [] disk empty))
no_names true board disk = refl
no_names false board disk = refl

-- a script that ran on the platform of a board left what is known of the platform of the board, disk and spans that are
-- handed back
pub names_given_up : (untaken : Bool) (new : Experiment) → new.untaken ≡ untaken → known_if untaken (platform_of new.board new.spans new.disk empty) ≡ option_map at_rest (platform new)
names_given_up true new same = rw same refl
names_given_up false new same = rw same refl

-- what a call did by digests of which no command compared it did by lists
call_by_lists : (task : Option Command) (end : RunEnd Fault) (source : Intake) (out : Output) (p : ListPlatform) (old new : Option DigestPlatform) → old ≡ Some (platform_digested p)
    → (ran : CallRan digests task end source out old new) → NothingComparedBy (call_done digests task end source out old new ran) (platform_digested p)
    → AgreesByLists (CallRan lists task end source out) p new
call_by_lists None end source out p old new stands ran nothing = record { left = p; stands = ran.1.kept ∙ stands; comes = (ran.0, record { unasked = ran.1.unasked; unread = ran.1.unread; unwritten = ran.1.unwritten; kept = refl }) }
call_by_lists (Some Run) end source out p old new stands ran nothing =
    let again = run_from ran.how source out p old ran.reached stands ran.ran nothing in
    record {
      left = at_rest again.left;
      stands = ran.left ∙ ap (option_map at_rest) again.stands;
      comes = record { how = ran.how; is = ran.is; reached = Some again.left; ran = again.comes; left = refl };
    }
call_by_lists (Some (Filter which)) end source out p old new stands ran nothing = record { left = p; stands = ran.kept ∙ stands; comes = record { how = ran.how; is = ran.is; ran = ran.ran; kept = refl } }

-- what a call answered by digests it answered by lists, where no command compared
pub answered_twice : (task : Option Command) (status : ℕ) (source : Intake) (out err : Output) (old new : Option DigestPlatform) → Answered digests task status source out err old new
    → AnsweredTwice task status source out err old new
answered_twice task status source out err old new a = record {
  digests = a;
  lists = λ p stands nothing.
      let again = call_by_lists task a.end source out p old new stands a.ran nothing in
      record { left = again.left; stands = again.stands; comes = record { end = a.end; cut = a.cut; ran = again.comes; caused = a.caused; reported = a.reported; answer = a.answer } };
}

-- ---- statuses

input_few : (bad : BadInput) → (input_status bad ≡ 1) ⊎ ((input_status bad ≡ 6) × (bad ≡ Denied))
input_few Denied = inr (refl, refl)
input_few other = inl refl

-- no input has the status of another end
not_input : (bad : BadInput) (n : ℕ) → 2 ≤ n → n ≤ 5 → input_status bad ≡ n → ⊥
not_input bad n least most is = elim (input_few bad) [
  | inl one ↦ omega (arith, is, one)
  | inr six ↦ omega (arith, is, six.0)
]

not_text : (n : ℕ) → 3 ≤ n → n ≤ 5 → IsTextStatus n → ⊥
not_text n least most is = elim is [
  | inl few ↦ omega arith
  | inr six ↦ omega arith
]

pub known_after : (end : RunEnd Fault) (cut : Option PutFault) → status_after end cut ≤ 6
known_after end (Some put.Failed) = omega arith
known_after end (Some put.NoMemory) = omega arith
known_after Done None = omega arith
known_after (Bad Words) None = omega arith
known_after (Bad (Script first)) None = omega arith
known_after (Bad (Input bad)) None = elim (input_few bad) [
  | inl one ↦ omega (arith, one)
  | inr six ↦ omega (arith, six.0)
]
known_after ReadFault None = omega arith
known_after (Cut put.Failed) None = omega arith
known_after (Cut put.NoMemory) None = omega arith
known_after NoMemory None = omega arith

pub two_after : (end : RunEnd Fault) (cut : Option PutFault) → status_after end cut ≡ 2 → end ≡ Bad Words
two_after end (Some put.Failed) is = absurd (omega (arith, is))
two_after end (Some put.NoMemory) is = absurd (omega (arith, is))
two_after Done None is = absurd (omega (arith, is))
two_after (Bad Words) None is = refl
two_after (Bad (Script first)) None is = absurd (omega (arith, is))
two_after (Bad (Input bad)) None is = absurd (not_input bad 2 (omega arith) (omega arith) is)
two_after ReadFault None is = absurd (omega (arith, is))
two_after (Cut put.Failed) None is = absurd (omega (arith, is))
two_after (Cut put.NoMemory) None is = absurd (omega (arith, is))
two_after NoMemory None is = absurd (omega (arith, is))

pub few_after : (end : RunEnd Fault) (cut : Option PutFault) → IsTextStatus (status_after end cut) → IsTextEnd end × (cut ≡ None)
few_after end (Some put.Failed) few = absurd (not_text 4 (omega arith) (omega arith) few)
few_after end (Some put.NoMemory) few = absurd (not_text 5 (omega arith) (omega arith) few)
few_after Done None few = (tt, refl)
few_after (Bad fault) None few = (tt, refl)
few_after ReadFault None few = absurd (not_text 3 (omega arith) (omega arith) few)
few_after (Cut put.Failed) None few = absurd (not_text 4 (omega arith) (omega arith) few)
few_after (Cut put.NoMemory) None few = absurd (not_text 5 (omega arith) (omega arith) few)
few_after NoMemory None few = absurd (not_text 5 (omega arith) (omega arith) few)

-- only a line of `verify` has status 6
six_after : (end : RunEnd Fault) (cut : Option PutFault) → status_after end cut ≡ 6 → end ≡ Bad (Input Denied)
six_after end (Some put.Failed) is = absurd (omega (arith, is))
six_after end (Some put.NoMemory) is = absurd (omega (arith, is))
six_after Done None is = absurd (omega (arith, is))
six_after (Bad Words) None is = absurd (omega (arith, is))
six_after (Bad (Script first)) None is = absurd (omega (arith, is))
six_after (Bad (Input bad)) None is = elim (input_few bad) [
  | inl one ↦ absurd (omega (arith, is, one))
  | inr six ↦ ap (λ (b : BadInput). Bad (Input b)) six.1
]
six_after ReadFault None is = absurd (omega (arith, is))
six_after (Cut put.Failed) None is = absurd (omega (arith, is))
six_after (Cut put.NoMemory) None is = absurd (omega (arith, is))
six_after NoMemory None is = absurd (omega (arith, is))

-- the status of words that are no command
pub words_after : (cut : Option PutFault) → (status_after (Bad Words) cut ≡ 2) ⊎ ((status_after (Bad Words) cut ≡ 4) ⊎ (status_after (Bad Words) cut ≡ 5))
words_after None = inl refl
words_after (Some put.Failed) = inr (inl refl)
words_after (Some put.NoMemory) = inr (inr refl)

module _ (source : Intake) (out err : Output) where
  pub three_after : (end : RunEnd Fault) (cut : Option PutFault) → HasCauses end source out → status_after end cut ≡ 3 → Rose source.old.faults source.new.faults
  three_after end (Some put.Failed) caused is = absurd (omega (arith, is))
  three_after end (Some put.NoMemory) caused is = absurd (omega (arith, is))
  three_after Done None caused is = absurd (omega (arith, is))
  three_after (Bad Words) None caused is = absurd (omega (arith, is))
  three_after (Bad (Script first)) None caused is = absurd (omega (arith, is))
  three_after (Bad (Input bad)) None caused is = absurd (not_input bad 3 (omega arith) (omega arith) is)
  three_after ReadFault None caused is = caused.read.1
  three_after (Cut put.Failed) None caused is = absurd (omega (arith, is))
  three_after (Cut put.NoMemory) None caused is = absurd (omega (arith, is))
  three_after NoMemory None caused is = absurd (omega (arith, is))

  pub four_after : (end : RunEnd Fault) (cut : Option PutFault) → HasCauses end source out → Reported (message_of end) cut err → status_after end cut ≡ 4
      → Rose out.old.faults out.new.faults ⊎ Rose err.old.faults err.new.faults
  four_after end (Some put.Failed) caused said is = inr said.2.1
  four_after end (Some put.NoMemory) caused said is = absurd (omega (arith, is))
  four_after Done None caused said is = absurd (omega (arith, is))
  four_after (Bad Words) None caused said is = absurd (omega (arith, is))
  four_after (Bad (Script first)) None caused said is = absurd (omega (arith, is))
  four_after (Bad (Input bad)) None caused said is = absurd (not_input bad 4 (omega arith) (omega arith) is)
  four_after ReadFault None caused said is = absurd (omega (arith, is))
  four_after (Cut put.Failed) None caused said is = inl caused.write.1
  four_after (Cut put.NoMemory) None caused said is = absurd (omega (arith, is))
  four_after NoMemory None caused said is = absurd (omega (arith, is))

-- ---- texts

-- what was taken of a source settles the end of all of it
whole_end : (task : Option Command) (content : List ℕ) (end : RunEnd Fault) (now : Option (List ℕ)) → Judged task end (Some content) now → end_on task content true ≡ end
whole_end task content end None j = absurd j.takes.consumed
whole_end task content end (Some rest) j =
    let whole : content ≡ j.taken ++ rest = j.takes.consumed in
    ap (λ bytes. end_on task bytes true) whole ∙ j.settled.stays rest j.takes.end.0

module _ {H M : Type 0} (R : Rules H M) (source : Intake) (out err : Output) (old new : Option (Platform H M)) where
  -- a call whose status is 0, 1 or 2
  pub text_of : (task : Option Command) (status : ℕ) → Answered R task status source out err old new → IsTextStatus status → IsText task status source err
  text_of task status a few =
      let w = few_after a.end a.cut (subst IsTextStatus a.answer few) in
      let j = judged_call R source out old new task a.end w.0 a.ran in
      let said : Reported (message_of a.end) None err = subst (λ (c : Option PutFault). Reported (message_of a.end) c err) w.1 a.reported in
      record {
        taken = j.taken;
        ended = j.ended;
        takes = j.takes;
        end = a.end;
        settled = j.settled;
        read = j.read;
        written = said.0;
        answer = a.answer ∙ ap (status_after a.end) w.1;
      }

  settled_end : (task : Option Command) (content : List ℕ) (end : RunEnd Fault) → IsTextEnd end → CallRan R task end source out old new → source.old.left ≡ Some content
      → end_on task content true ≡ end
  settled_end task content end is ran known = let j = judged_call R source out old new task end is ran in
      whole_end task content end source.new.left (subst (λ (o : Option (List ℕ)). Judged task end o source.new.left) known j)

  -- the end of a source
  pub complete_call : (task : Option Command) (content : List ℕ) (end : RunEnd Fault) (cut : Option PutFault) → CallRan R task end source out old new → HasCauses end source out → Reported (message_of end) cut err
      → source.old.left ≡ Some content
      → (status_after end cut ≡ status_of (end_on task content true)) ⊎ ((status_after end cut ≡ 5) ⊎ (Rose source.old.faults source.new.faults ⊎ (Rose out.old.faults out.new.faults ⊎ Rose err.old.faults err.new.faults)))
  complete_call task content end (Some put.Failed) ran caused said known = inr (inr (inr (inr said.2.1)))
  complete_call task content end (Some put.NoMemory) ran caused said known = inr (inl refl)
  complete_call task content Done None ran caused said known = inl (ap status_of (sym (settled_end task content Done tt ran known)))
  complete_call task content (Bad fault) None ran caused said known = inl (ap status_of (sym (settled_end task content (Bad fault) tt ran known)))
  complete_call task content ReadFault None ran caused said known = inr (inr (inl caused.read.1))
  complete_call task content (Cut put.Failed) None ran caused said known = inr (inr (inr (inl caused.write.1)))
  complete_call task content (Cut put.NoMemory) None ran caused said known = inr (inl refl)
  complete_call task content NoMemory None ran caused said known = inr (inl refl)

  -- a call that was denied
  denied_judged : (task : Option Command) → Judged task (Bad (Input Denied)) source.old.left source.new.left → IsDenied task source
  denied_judged None j = absurd (let is : Bad Words ≡ Bad (Input Denied) = j.settled.is in cc)
  denied_judged (Some Run) j = absurd (never_denied (bad_in j.taken j.ended) j.settled.is)
  denied_judged (Some (Filter which)) j =
      let fault : fault_in which j.taken ≡ Some Denied = fault_ends (fault_in which j.taken) j.settled.is in
      let verify : which ≡ Verify = only_verify which j.taken fault in
      let told = denied_claim j.taken (subst (λ (w : Which). fault_in w j.taken ≡ Some Denied) verify fault) in
      record {
        taken = j.taken;
        takes = subst (Takes source.old.left source.new.left j.taken) (j.denied refl) j.takes;
        verify = ap (λ (w : Which). Some (Filter w)) verify;
        claim = told.0;
        read = told.1;
        denied = told.2;
      } where
        fault_ends : (fault : Option BadInput) → input_end fault ≡ Bad (Input Denied) → fault ≡ Some Denied
        fault_ends None is = absurd (cc)
        fault_ends (Some bad) is = let same : bad ≡ Denied = cc in rw same refl

  -- a call whose status is 6
  pub denied_call : (task : Option Command) (status : ℕ) → Answered R task status source out err old new → status ≡ 6 → IsDenied task source
  denied_call task status a six =
      let is : a.end ≡ Bad (Input Denied) = six_after a.end a.cut (sym a.answer ∙ six) in
      let j = judged_call R source out old new task a.end (subst IsTextEnd (sym is) tt) a.ran in
      denied_judged task (subst (λ (e : RunEnd Fault). Judged task e source.old.left source.new.left) is j)
