-- What the code makes of a session's end.
use Rattle.std.specs.Prelude.{ℕ, List, [], take, count_by, Option, Some, None}
use Rattle.std.specs.FinMap.{insert}
use Rattle.expr_text.specs.Variables.{Table}
use Rattle.machine_memory.specs.ArmedWrites.{Armed, is_waiting, is_done, is_blocked}
use Rattle.slb_core.specs.Reports.{count_of}
use Rattle.session_driver.specs.declared.driver.SessionEnd.{SessionEnd}
use Rattle.session_driver.specs.declared.driver.SessionEnd.TheVariants as end
use Rattle.flk_run.specs.declared.answers.Refusal.TheVariants.{NoImage, NoInput, NoPlace}
use Rattle.flk_run.specs.Answers.{Answer, Quiet, Shows, Ended, Refused}

-- the answer to an end, after which the armed writes are these, and the output page is this; there is
-- none where memory ran out
abbrev pub answer_to_end : SessionEnd → List Armed → List ℕ → Answer
answer_to_end end.NoPlace writes out = Refused NoPlace
answer_to_end (end.BadImage fault) writes out = Refused (NoImage fault)
answer_to_end end.LongInput writes out = Refused NoInput
answer_to_end end.NoMemory writes out = Quiet
answer_to_end (end.Ended how turns) writes out = Ended (record {
  end = how;
  turns = turns;
  writes_done = count_by (λ write. is_done write.ended) writes;
  writes_blocked = count_by (λ write. is_blocked write.ended) writes;
  writes_left = count_by (λ write. is_waiting write.ended) writes;
  outputs = take (count_of how) out;
})

-- the writes that stay armed: none where the session ended
abbrev pub armed_after : SessionEnd → List Armed → List Armed
armed_after (end.Ended how turns) writes = []
armed_after other writes = writes

-- the variables once a name was bound to the outputs that an answer shows, if it does
abbrev pub table_after : List ℕ → Answer → Table → Table
table_after name (Ended over) table = insert table name over.outputs
table_after name other table = table

-- the bytes that an answer shows, if it does
abbrev pub shown_in : Answer → Option (List ℕ)
shown_in (Shows bytes) = Some bytes
shown_in other = None

-- the variables once a name was bound to bytes, where there are some
abbrev pub table_with : List ℕ → Option (List ℕ) → Table → Table
table_with name (Some bytes) table = insert table name bytes
table_with name None table = table
