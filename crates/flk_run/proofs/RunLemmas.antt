-- How far a run came, line by line, and what its ends say. The run began at platform `from`, and is
-- at `at`, where it has written to `b` of what out held, `a`.
use Rattle.std.proofs.Common.{◌≡◌, ◌≢◌, inl, inr, ℕ, ◌+◌, ◌-◌, ◌<◌, ◌≤◌, Bool, true, false, List, [], ◌∷◌, ◌++◌, length, refl, sym, ap, subst, ◌∙◌, append_assoc, append-nil, length-append, arith}
use Rattle.std.specs.Prelude.{◌==◌, Option, Some, None, Result, Ok, Err, nat_lt}
use Rattle.std.specs.Option.{IfSome, option_map}
use Rattle.std.specs.Io.KnownBytes.{Appends, Consumes, IsAtEnd}
use Rattle.std.proofs.lemmas.Bool.{true_from_ne_false}
use Rattle.std.proofs.lemmas.Bool.Decides.{nat_tests}
use Rattle.std.proofs.KnownBytes.{Appends-nil, Appends-trans, Consumes-nil, Consumes-trans}
use Rattle.flk_base.specs.Known.{AppendsWhereKnown, AppendsPrefix}
use Rattle.flk_base.specs.Streams.{Intake, Output, Takes, TakenUntilFault}
use Rattle.flk_base.specs.declared.run_end.RunEnd.{RunEnd}
use Rattle.flk_base.specs.declared.run_end.RunEnd.TheVariants as run
use Rattle.flk_base.specs.declared.streams.PutFault.{PutFault}
use Rattle.script_text.specs.Grammar.{Request, Nothing}
use Rattle.script_text.specs.Lines.{script_lines, lines_from, after_lines, words, content}
use Rattle.script_text.specs.declared.line.TheConstants.{LONGEST_LINE, MOST_LINES}
use Rattle.script_text.specs.Reader.{Held, HasLongPrefix, GivesFirst}
use Rattle.script_text.specs.declared.reader.TheConstants.{READ_SIZE}
use Rattle.script_text.specs.Reading.{judged, reading, as_bad, IsEarly, words_may_allocate}
use Rattle.script_text.specs.declared.reader.LineEnd.TheVariants as line
use Rattle.script_text.specs.declared.line.BadLine.{BadLine}
use Rattle.script_text.specs.declared.line.BadLine.TheVariants.{Faulty, TooMany}
use Rattle.script_text.specs.declared.line.LineFault.{LineFault}
use Rattle.script_text.specs.declared.line.LineFault.TheVariants as fault
use Rattle.script_text.proofs.LineLemmas.{long_first, some_first}
use Rattle.flk_run.specs.declared.run.ScriptFault.{ScriptFault}
use Rattle.seal_device.specs.Digests.{digests}
use Rattle.flk_run.specs.Platform.{DigestPlatform}
use Rattle.flk_run.specs.Events.{after, transcript_line, transcript, after_all}
use Rattle.flk_run.specs.Script.{good_requests, first_bad, AsksFor, MayRunOut}
use Rattle.flk_run.specs.Runs.{IsNearLine, bad_in, Written, LineCut, Reached, AllDone, ReadShort, CutShort, Paused, Ran}
use Rattle.flk_run.specs.LineRuns.{EventDone, EventCut, NotBegun, LineRan}
use Rattle.flk_run.proofs.PlatformLemmas.{no_line}
use Rattle.flk_run.proofs.ScriptLemmas.{length-good, bad_behind, good_behind, one_more, transcript-append, after_all-append, judged_good, judged_long, judged_many}
use Rattle.flk_base.proofs.TakenLemmas.{the_end, says_end, says_all, seen_end, taken_then}
use Rattle.flk_run.proofs.SplitLemmas.{Split, Stepped, Goes, nothing_held, split_begins, split_line, split_all, given_first, more_goes, open_rest}

-- the platform, where it is known
abbrev Known : Type 0
Known = Option DigestPlatform

-- the first k lines are good, done and written
pub record Progress (k : ℕ) (held : Held) (source source' a b : Option (List ℕ))
    (from at : Known) : Type 0 where
  pub lines : List (List ℕ)
  pub taken : List ℕ
  pub consumed : Consumes source source' taken
  pub split : Split k lines taken held
  pub good : first_bad 1 lines ≡ None
  pub done : Written digests (good_requests 1 lines) a b from at

nothing_done : (a : Option (List ℕ)) (from : Known) → Written digests [] a a from from
nothing_done a None = record { written = tt; at = refl }
nothing_done a (Some p) = record { written = Appends-nil a; at = refl }

pub begins : (source a : Option (List ℕ)) (from : Known)
    → Progress 0 nothing_held source source a a from from
begins source a from = record {
  lines = [];
  taken = [];
  consumed = Consumes-nil source;
  split = split_begins;
  good = refl;
  done = nothing_done a from;
}

-- ---- one line more

-- a line that was done asks for a request
done_asks : (n : ℕ) (text : List ℕ) (line : Result Request BadLine) (b c : Option (List ℕ))
    (mid at : Known) → LineRan run.Done n text line b c mid at
    → (request : Request) × (line ≡ Ok request) × EventDone n request b c mid at
done_asks n text (Ok request) b c mid at done = (request, refl, done)
done_asks n text (Err bad) b c mid at done = absurd done

cut_asks : (n : ℕ) (text : List ℕ) (line : Result Request BadLine) (put : PutFault)
    (b c : Option (List ℕ)) (mid at : Known) → LineRan (run.Cut put) n text line b c mid at
    → (request : Request) × (line ≡ Ok request) × EventCut n request b c mid at
cut_asks n text (Ok request) put b c mid at cut = (request, refl, cut)
cut_asks n text (Err bad) put b c mid at cut = absurd cut

bad_asks : (n : ℕ) (text : List ℕ) (line : Result Request BadLine) (first : ScriptFault)
    (b c : Option (List ℕ)) (mid at : Known) → LineRan (run.Bad first) n text line b c mid at
    → (bad : BadLine) × (line ≡ Err bad) × (first ≡ record { line = n; bad = bad })
    × NotBegun b c mid at
bad_asks n text (Ok request) first b c mid at ran = absurd ran
bad_asks n text (Err bad) first b c mid at ran = (bad, refl, ran.0, ran.1)

-- a request more is done and written
written_more : (n : ℕ) (before : List Request) (request : Request) (a b c : Option (List ℕ))
    (from mid new : Known) → length before + 1 ≡ n
    → Written digests before a b from mid → EventDone n request b c mid new
    → Written digests (before ++ request ∷ []) a c from new
written_more n before request a b c None mid new count w d =
    record { written = tt; at = d.at ∙ ap (option_map (after digests request)) w.at }
written_more n before request a b c (Some from) mid new count w d =
    let there = after_all digests before from in
    let here = transcript_line digests n request there in
    let number : 1 + length before ≡ n = omega arith in
    let whole : transcript digests 1 (before ++ request ∷ []) from
    ≡ transcript digests 1 before from ++ here =
    transcript-append digests 1 before (request ∷ []) from
    ∙ ap (λ m. transcript digests 1 before from ++ transcript digests m (request ∷ []) there) number
    ∙ ap (λ t. transcript digests 1 before from ++ t) (append-nil here) in
    let line : Appends b c here = subst
    (λ (q : Known). IfSome q (λ p. Appends b c
    (transcript_line digests n request p))) w.at d.written in
    record {
      written = subst (λ t. Appends a c t) (sym whole)
          (Appends-trans a b c (transcript digests 1 before from) here w.written line);
      at = d.at ∙ ap (option_map (after digests request)) w.at
          ∙ ap Some (sym (after_all-append digests before (request ∷ []) from));
    }

-- a line was given, done and written
pub line_done : (k : ℕ) (old new : Held) (s t u a b c : Option (List ℕ)) (from mid at : Known)
    → Progress k old s t a b from mid → Stepped line.Line old new t u
    → LineRan run.Done (k + 1) new.line (judged (k + 1) new.line) b c mid at
    → Progress (k + 1) new s u a c from at
line_done k old new s t u a b c from mid at g step done =
    let ran = done_asks (k + 1) new.line (judged (k + 1) new.line) b c mid at done in
    let n : length (good_requests 1 g.lines) + 1
    ≡ k + 1 = omega (arith, length-good 1 g.lines g.good, g.split.count) in
    let requests : good_requests 1 (g.lines ++ new.line ∷ [])
    ≡ good_requests 1 g.lines ++ ran.0 ∷ [] =
    (good_behind k g.lines new.line [] ran.0 g.split.count g.good ran.1).good in
    record {
      lines = g.lines ++ new.line ∷ [];
      taken = g.taken ++ step.taken;
      consumed = Consumes-trans s t u g.taken step.taken g.consumed step.consumed;
      split = split_line k g.lines g.taken old new t u g.split step;
      good = one_more k g.lines new.line ran.0 g.split.count g.good ran.1;
      done = subst (λ rs. Written digests rs a c from at) (sym requests)
          (written_more (k + 1) (good_requests 1 g.lines) ran.0 a b c from mid at n g.done ran.2);
    }

-- ---- ends of the reader

-- all was taken
pub ends_all : (k : ℕ) (old : Held) (s t u a b : Option (List ℕ)) (taken : List ℕ) (from at : Known)
    → Progress k old s t a b from at → Consumes t u taken → IsAtEnd u → old.bytes ++ taken ≡ []
    → (old.ended ≡ true → taken ≡ []) → AllDone digests s u a b from at None
ends_all k old s t u a b taken from at g consumed at_end none goes =
    let all = split_all k g.lines g.taken taken old true g.split (λ e. (goes e, refl)) in
    let lines : script_lines (g.taken ++ taken) true ≡ g.lines = all.0
    ∙ ap (λ bs. g.lines ++ lines_from k bs true) none ∙ append-nil g.lines in
    let judged_so : bad_in (g.taken ++ taken) true ≡ None = ap (first_bad 1) lines ∙ g.good in
    record {
      taken = g.taken ++ taken;
      ended = true;
      takes = record { consumed = Consumes-trans s t u g.taken taken g.consumed consumed; end = says_all u at_end };
      judged = record {
        is = judged_so;
        stays = λ more nothing. ap (λ m. bad_in ((g.taken ++ taken) ++ m) true) (nothing refl)
            ∙ ap (λ bs. bad_in bs true) (append-nil (g.taken ++ taken)) ∙ judged_so;
      };
      read = λ e. refl;
      done = subst (λ ls. Written digests (good_requests 1 ls) a b from at) (sym lines) g.done;
      near = tt;
    }

-- lines, of which the first, line n, is bad
record BadFirst (n : ℕ) (bad : BadLine) (lines : List (List ℕ)) : Type 0 where
  first : List ℕ
  more : List (List ℕ)
  are : lines ≡ first ∷ more
  is_bad : judged n first ≡ Err bad

-- good lines, and then a bad one
record BadBehindAny (k : ℕ) (lines : List (List ℕ)) (bad : BadLine)
    (all : List (List ℕ)) : Type 0 where
  first : first_bad 1 all ≡ Some (record { line = k + 1; bad = bad })
  good : good_requests 1 all ≡ good_requests 1 lines

bad_any : (k : ℕ) (lines : List (List ℕ)) (bad : BadLine) (all rest : List (List ℕ))
    → length lines ≡ k → first_bad 1 lines ≡ None → all ≡ lines ++ rest → BadFirst (k + 1) bad rest
    → BadBehindAny k lines bad all
bad_any k lines bad all rest count none are f =
    let b = bad_behind k lines f.first f.more bad count none f.is_bad in
    let e : all ≡ lines ++ f.first ∷ f.more = are ∙ ap (λ ls. lines ++ ls) f.are in
    record { first = ap (first_bad 1) e ∙ b.first; good = ap (good_requests 1) e ∙ b.good }

longer_prefix : (bytes more : List ℕ) → HasLongPrefix bytes → HasLongPrefix (bytes ++ more)
longer_prefix bytes more h =
    record {
      prefix = h.prefix;
      more = h.more ++ more;
      whole = ap (λ bs. bs ++ more) h.whole
          ∙ append_assoc h.prefix h.more more;
      long = h.long;
      one = h.one;
    }

still_some : (bytes more : List ℕ) → bytes ≢ [] → bytes ++ more ≢ []
still_some [] more some h = some refl
still_some (c ∷ cs) more some h = cc

-- the first line after the good ones is bad, whatever follows
ends_bad : (k : ℕ) (old new : Held) (s t u a b : Option (List ℕ)) (taken : List ℕ) (bad : BadLine)
    (from at : Known)
    → (g : Progress k old s t a b from at) → Consumes t u taken
    → (old.ended ≡ true → (taken ≡ []) × (new.ended ≡ true)) → (new.ended ≡ true → IsAtEnd u)
    → ((more : List ℕ) (ended : Bool) → Goes new more ended
    → BadFirst (k + 1) bad (lines_from k ((old.bytes ++ taken) ++ more) ended))
    → IsNearLine (k + 1) bad (g.taken ++ taken)
    → AllDone digests s u a b from at (Some (record { line = k + 1; bad = bad }))
ends_bad k old new s t u a b taken bad from at g consumed goes at_end beyond near =
    let ended = the_end new.ended u in
    let whole : (more : List ℕ) (e : Bool) → Goes new more e
    → BadBehindAny k g.lines bad (script_lines ((g.taken ++ taken) ++ more) e) = λ more e next.
    bad_any k g.lines bad (script_lines ((g.taken ++ taken) ++ more) e)
    (lines_from k ((old.bytes ++ taken) ++ more) e) g.split.count g.good
    (ap (λ bs. script_lines bs e) (append_assoc g.taken taken more)
    ∙ g.split.lines_of (taken ++ more) e (more_goes old new taken more e goes next)
    ∙ ap (λ bs. g.lines ++ lines_from k bs e) (sym (append_assoc old.bytes taken more)))
    (beyond more e next) in
    let now = whole [] ended (λ e. (refl, seen_end new.ended u e)) in
    let same : script_lines ((g.taken ++ taken) ++ []) ended
    ≡ script_lines (g.taken ++ taken) ended = ap (λ bs. script_lines bs ended)
    (append-nil (g.taken ++ taken)) in
    record {
      taken = g.taken ++ taken;
      ended = ended;
      takes = record { consumed = Consumes-trans s t u g.taken taken g.consumed consumed; end = says_end new.ended u at_end };
      judged = record {
        is = ap (first_bad 1) (sym same) ∙ now.first;
        stays = λ more nothing. (whole more true
            (λ e. (nothing (seen_end new.ended u e), refl))).first;
      };
      read = λ e. absurd (cc);
      done = subst (λ rs. Written digests rs a b from at)
          (sym (ap (good_requests 1) (sym same) ∙ now.good)) g.done;
      near = near;
    }

-- a line that is too long
pub ends_long : (k : ℕ) (old new : Held) (s t u a b : Option (List ℕ)) (from at : Known)
    → k < MOST_LINES
    → Progress k old s t a b from at → Stepped line.Long old new t u
    → (new.ended ≡ true → IsAtEnd u) → length new.bytes ≤ LONGEST_LINE + 1 + READ_SIZE
    → AllDone digests s u a b from at (Some (record { line = k + 1; bad = Faulty fault.LongLine }))
ends_long k old new s t u a b from at few g step at_end near =
    let ended = the_end new.ended u in
    let all = split_all k g.lines g.taken step.taken old ended g.split
    (λ e. let w = step.goes e in (w.0, seen_end new.ended u w.1)) in
    let n : k + 1 ≤ MOST_LINES = omega arith in
    let one : k + 1 - 1 ≡ k = omega arith in
    ends_bad k old new s t u a b step.taken
    (Faulty fault.LongLine) from at g step.consumed step.goes at_end
    (λ more e next.
    let long = long_first k ((old.bytes ++ step.taken) ++ more) e
    (longer_prefix (old.bytes ++ step.taken) more step.after.0) in
    record {
      first = long.0.first;
      more = long.0.more;
      are = long.0.whole;
      is_bad = judged_long
          (k + 1) long.0.first n long.1;
    })
    (rw (one, all.1) (omega (arith, ap length step.after.1)))

-- one line too many
pub ends_many : (k : ℕ) (old new : Held) (s t u a b : Option (List ℕ)) (taken : List ℕ)
    (from at : Known) → k ≡ MOST_LINES
    → Progress k old s t a b from at → Consumes t u taken → old.bytes ++ taken ≢ []
    → new.bytes ≡ old.bytes ++ taken → (old.ended ≡ true → (taken ≡ []) × (new.ended ≡ true))
    → (new.ended ≡ true → IsAtEnd u) → length new.bytes ≤ READ_SIZE
    → AllDone digests s u a b from at (Some (record { line = k + 1; bad = TooMany }))
ends_many k old new s t u a b taken from at many g consumed some held goes at_end near =
    let ended = the_end new.ended u in
    let all = split_all k g.lines g.taken taken old ended g.split
    (λ e. let w = goes e in (w.0, seen_end new.ended u w.1)) in
    let n : MOST_LINES < k + 1 = omega arith in
    ends_bad k old new s t u a b taken TooMany from at g consumed goes at_end
    (λ more e next.
    let first = some_first k ((old.bytes ++ taken) ++ more) e
    (still_some (old.bytes ++ taken) more some) (omega arith) in
    record {
      first = first.first;
      more = first.more;
      are = first.whole;
      is_bad = judged_many
          (k + 1) first.first n;
    })
    (let one : k + 1 - 1 ≡ k = omega arith in rw (one, all.1) (omega (arith, ap length held)))

-- a read failed
pub ends_short : (k : ℕ) (old : Held) (s t u a b : Option (List ℕ)) (taken : List ℕ)
    (from at : Known)
    → Progress k old s t a b from at → TakenUntilFault t u taken → (old.ended ≡ true → ⊥)
    → lines_from k (old.bytes ++ taken) false ≡ [] → ReadShort digests s u a b from at
ends_short k old s t u a b taken from at g consumed open_end none =
    let all = split_all k g.lines g.taken taken old false g.split (λ e. absurd (open_end e)) in
    let lines : script_lines (g.taken ++ taken) false ≡ g.lines = all.0
    ∙ ap (λ ls. g.lines ++ ls) none ∙ append-nil g.lines in
    record {
      taken = g.taken ++ taken;
      consumed = taken_then s t u g.taken taken g.consumed consumed;
      good = ap (first_bad 1) lines ∙ g.good;
      done = subst (λ ls. Written digests (good_requests 1 ls) a b from at) (sym lines) g.done;
    }

pub ends_failed : (k : ℕ) (old new : Held) (s t u a b : Option (List ℕ)) (from at : Known)
    → k < MOST_LINES
    → Progress k old s t a b from at → Stepped line.Failed old new t u
    → ReadShort digests s u a b from at
ends_failed k old new s t u a b from at few g step =
    let wants = step.after.0 in
    ends_short k old s t u a b step.taken from at g step.consumed
    (λ e. let w = (step.goes e).1 in let f = wants.open_end in absurd (cc))
    (subst (λ bs. lines_from k bs false ≡ []) step.after.1 (open_rest k new few wants))

-- ---- ends of a line

-- what stands after the line that was given
record Given (k : ℕ) (new : Held) (s u : Option (List ℕ)) (lines : List (List ℕ))
    (taken : List ℕ) : Type 0 where
  ended : Bool
  takes : Takes s u taken ended
  lines_of : script_lines taken ended ≡ lines ++ new.line ∷ lines_from (k + 1) new.bytes ended
  near : length (after_lines (k + 1) taken) ≤ READ_SIZE
  before : length (after_lines (k + 1 - 1) taken) ≤ LONGEST_LINE + 1 + READ_SIZE

first_short : (new : Held) (bytes : List ℕ) → GivesFirst bytes new → length new.line ≤ LONGEST_LINE
    → length new.bytes ≤ READ_SIZE → length bytes ≤ LONGEST_LINE + 1 + READ_SIZE
first_short new bytes (inl first) short near =
    omega (arith, ap length first, length-append new.line (10 ∷ new.bytes))
first_short new bytes (inr last) short near = omega (arith, ap length last.1)

given : (k : ℕ) (old new : Held) (s t u a b : Option (List ℕ)) (from at : Known)
    → (g : Progress k old s t a b from at) → (step : Stepped line.Line old new t u)
    → (new.ended ≡ true → IsAtEnd u) → length new.bytes ≤ READ_SIZE
    → Given k new s u g.lines (g.taken ++ step.taken)
given k old new s t u a b from at g step at_end near =
    let ended = the_end new.ended u in
    let next = split_line k g.lines g.taken old new t u g.split step in
    let no_more : (g.taken ++ step.taken) ++ []
    ≡ g.taken ++ step.taken = append-nil (g.taken ++ step.taken) in
    let none : new.bytes ++ [] ≡ new.bytes = append-nil new.bytes in
    let goes : Goes new [] ended = λ e. (refl, seen_end new.ended u e) in
    let lines : script_lines (g.taken ++ step.taken) ended
    ≡ (g.lines ++ new.line ∷ []) ++ lines_from (k + 1) new.bytes ended =
    ap (λ bs. script_lines bs ended) (sym no_more) ∙ next.lines_of [] ended goes
    ∙ ap (λ bs. (g.lines ++ new.line ∷ []) ++ lines_from (k + 1) bs ended) none in
    let beyond : after_lines (k + 1) (g.taken ++ step.taken)
    ≡ new.bytes = ap (after_lines (k + 1)) (sym no_more) ∙ next.beyond [] ended goes ∙ none in
    let all = split_all k g.lines g.taken step.taken old ended g.split
    (λ e. let w = step.goes e in (w.0, seen_end new.ended u w.1)) in
    let one : k + 1 - 1 ≡ k = omega arith in
    record {
      ended = ended;
      takes = record { consumed = Consumes-trans s t u g.taken step.taken g.consumed step.consumed; end = says_end new.ended u at_end };
      lines_of = lines ∙ append_assoc g.lines (new.line ∷ []) (lines_from (k + 1) new.bytes ended);
      near = rw beyond near;
      before = rw (one, all.1) (first_short new
          (old.bytes ++ step.taken) step.after.2 step.after.1 near);
    }

-- no line ends with a read
no_read : (n : ℕ) (text : List ℕ) (line : Result Request BadLine) (b c : Option (List ℕ))
    (mid at : Known) → LineRan run.ReadFault n text line b c mid at → ⊥
no_read n text (Ok request) b c mid at ran = ran
no_read n text (Err bad) b c mid at ran = ran

known_more : (a b c : Option (List ℕ)) (xs ys : List ℕ) → Appends a b xs → AppendsWhereKnown b c ys
    → AppendsWhereKnown a c (xs ++ ys)
known_more None b c xs ys h k = tt
known_more (Some us) None c xs ys h k = absurd h
known_more (Some us) (Some vs) None xs ys h k = tt
known_more (Some us) (Some vs) (Some ws) xs ys h k = k ∙ ap (λ r. r ++ ys) h ∙ append_assoc us xs ys

-- requests are done and written, and of one more not all is written
cut_line : (n : ℕ) (before : List Request) (request : Request) (a b c : Option (List ℕ))
    (from mid at : Known)
    → Written digests before a b from mid → EventCut n request b c mid at
    → LineCut digests n before request a c from at
cut_line n before request a b c None mid at w cut =
    record { some = tt; written = tt; at = cut.at ∙ ap (option_map (after digests request)) w.at }
cut_line n before request a b c (Some from) mid at w cut =
    let there = after_all digests before from in
    let part = subst (λ (q : Known). IfSome q
    (λ p. AppendsPrefix b c [] (transcript_line digests n request p))) w.at cut.written in
    record {
      some = subst (λ (q : Known). IfSome q
          (λ p. transcript_line digests n request p ≢ [])) w.at cut.some;
      written = record {
        prefix = part.prefix;
        missing = part.missing;
        is = part.is;
        proper = part.proper;
        grown = known_more a b c (transcript digests 1 before from) part.prefix w.written part.grown;
      };
      at = cut.at ∙ ap (option_map (after digests request)) w.at
          ∙ ap Some (sym (after_all-append digests before (request ∷ []) from));
    }

near_faulty : (k : ℕ) (bad : BadLine) (taken : List ℕ) → (bad ≡ TooMany → ⊥)
    → length (after_lines (k + 1) taken) ≤ READ_SIZE
    → length (after_lines (k + 1 - 1) taken) ≤ LONGEST_LINE + 1 + READ_SIZE
    → IsNearLine (k + 1) bad taken
near_faulty k TooMany taken one near before = absurd (one refl)
near_faulty k (Faulty fault.LongLine) taken one near before = before
near_faulty k (Faulty fault.Byte) taken one near before = near
near_faulty k (Faulty fault.Command) taken one near before = near
near_faulty k (Faulty fault.Count) taken one near before = near
near_faulty k (Faulty fault.Number) taken one near before = near
near_faulty k (Faulty fault.Expression) taken one near before = near
near_faulty k (Faulty fault.Name) taken one near before = near

unwritten : (requests : List Request) (a b c : Option (List ℕ)) (from mid at : Known)
    → Written digests requests a b from mid → NotBegun b c mid at
    → Written digests requests a c from at
unwritten requests a b c from mid at all n =
    subst (λ o. Written digests requests a o from at) (sym n.unwritten)
    (subst (λ m. Written digests requests a b from m) (sym n.kept) all)

-- a line with a fault is not one too many
not_many : (n : ℕ) (text : List ℕ) (bad : BadLine) → n ≤ MOST_LINES → judged n text ≡ Err bad
    → bad ≡ TooMany → ⊥
not_many n text bad few is many =
    let a : nat_lt MOST_LINES n ≡ false = grind (arith, nat_tests) in
    let one : as_bad (reading text) ≡ Err bad = rw a at is in
    faulty_alone (reading text) bad one many
  where
    faulty_alone : (read : Result Request LineFault) (bad : BadLine) → as_bad read ≡ Err bad
        → bad ≡ TooMany → ⊥
    faulty_alone (Ok request) bad one many = cc
    faulty_alone (Err f) bad one many = cc

module _ (k : ℕ) (old new : Held) (i : Intake) (o : Output) (t b : Option (List ℕ))
    (from mid at : Known) (few : k < MOST_LINES)
    (g : Progress k old i.old.left t o.old.contents b from mid)
    (step : Stepped line.Line old new t i.new.left)
    (at_end : new.ended ≡ true → IsAtEnd i.new.left) (near : length new.bytes ≤ READ_SIZE) where
  this_line : Given k new i.old.left i.new.left g.lines (g.taken ++ step.taken)
  this_line = given k old new i.old.left t i.new.left o.old.contents b from mid g step at_end near

  number : length g.lines + 1 ≡ k + 1
  number = ap (λ n. n + 1) g.split.count

  -- the line that was given is the next
  reached : (r : Reached i.old.left i.new.left) × (r.first ≡ g.lines) × (r.next ≡ new.line)
  reached = (
    record {
      taken = g.taken ++ step.taken;
      ended = this_line.ended;
      takes = this_line.takes;
      first = g.lines;
      next = new.line;
      later = lines_from (k + 1) new.bytes this_line.ended;
      lines = this_line.lines_of;
      good = g.good;
      near = rw number (this_line.near);
    },
    refl,
    refl,
  )

  -- it was judged so
  judged_here : (r : Reached i.old.left i.new.left) → r.first ≡ g.lines → r.next ≡ new.line
      → judged (length r.first + 1) r.next ≡ judged (k + 1) new.line
  judged_here r first next = ap (λ (ls : List (List ℕ)). judged (length ls + 1) r.next) first
      ∙ ap (λ (n : ℕ). judged n r.next) number ∙ ap (judged (k + 1)) next

  -- it is bad
  line_bad : (first : ScriptFault)
      → LineRan (run.Bad first) (k + 1) new.line (judged (k + 1) new.line) b o.new.contents mid at
      → AllDone digests i.old.left i.new.left o.old.contents o.new.contents from at (Some first)
  line_bad first ran =
      let asked = bad_asks (k + 1) new.line
      (judged (k + 1) new.line) first b o.new.contents mid at ran in
      let alone = not_many (k + 1) new.line asked.0 (omega arith) asked.1 in
      let all : AllDone digests i.old.left i.new.left o.old.contents b from mid
      (Some (record { line = k + 1; bad = asked.0 })) =
      ends_bad k old new i.old.left t i.new.left o.old.contents b step.taken asked.0 from mid g step.consumed step.goes at_end
      (λ more e next.
      let here = given_first k new (old.bytes
      ++ step.taken) more e step.after.0 step.after.2 next in
      record {
        first = new.line;
        more = lines_from (k + 1)
            (new.bytes ++ more) e;
        are = here.0;
        is_bad = asked.1;
      })
      (near_faulty k asked.0 (g.taken ++ step.taken) alone this_line.near this_line.before) in
      subst (λ (f : ScriptFault). AllDone digests i.old.left i.new.left o.old.contents o.new.contents from at (Some f)) (sym asked.2)
      (record {
        taken = all.taken;
        ended = all.ended;
        takes = all.takes;
        judged = all.judged;
        read = all.read;
        done = unwritten (good_requests 1
            (script_lines all.taken all.ended)) o.old.contents b o.new.contents from mid at all.done asked.3;
        near = all.near;
      })

  -- its transcript line is not whole
  line_cut : (put : PutFault)
      → LineRan (run.Cut put) (k + 1) new.line (judged (k + 1) new.line) b o.new.contents mid at
      → CutShort digests i.old.left i.new.left o.old.contents o.new.contents from at
  line_cut put ran =
      let asked = cut_asks (k + 1) new.line
      (judged (k + 1) new.line) put b o.new.contents mid at ran in
      let r = reached in
      let before : good_requests 1 r.0.first ≡ good_requests 1 g.lines = ap (good_requests 1) r.1 in
      let n : k + 1 ≡ length r.0.first + 1 = sym
      (ap (λ (ls : List (List ℕ)). length ls + 1) r.1 ∙ number) in
      record {
        reached = r.0;
        request = asked.0;
        asks = judged_here r.0 r.1 r.2 ∙ asked.1;
        cut = subst (λ (rs : List Request). LineCut digests
            (length r.0.first + 1) rs asked.0 o.old.contents o.new.contents from at) (sym before)
            (subst (λ (m : ℕ). LineCut digests m
            (good_requests 1 g.lines) asked.0 o.old.contents o.new.contents from at) n
            (cut_line (k + 1)
            (good_requests 1 g.lines) asked.0 o.old.contents b o.new.contents from mid at g.done asked.2));
      }

  -- memory ran out before it was begun
  line_paused : LineRan run.NoMemory (k + 1) new.line
      (judged (k + 1) new.line) b o.new.contents mid at
      → Paused digests i.old.left i.new.left o.old.contents o.new.contents from at
  line_paused ran =
      let r = reached in
      record {
        reached = r.0;
        may = subst (λ (line : List ℕ). MayRunOut line (judged (length r.0.first + 1) r.0.next))
            (sym r.2) (subst (MayRunOut new.line) (sym (judged_here r.0 r.1 r.2)) ran.0);
        done = subst (λ (ls : List (List ℕ)). Written digests
            (good_requests 1 ls) o.old.contents o.new.contents from at) (sym r.1)
            (unwritten (good_requests 1 g.lines) o.old.contents b o.new.contents from mid at g.done ran.1);
      }

  -- the run ends as the line did that was given
  pub line_ends : (end : RunEnd ScriptFault) → (end ≡ run.Done → ⊥)
      → LineRan end (k + 1) new.line (judged (k + 1) new.line) b o.new.contents mid at
      → Ran digests end i o from at
  line_ends run.Done goes ran = absurd (goes refl)
  line_ends (run.Bad first) goes ran = line_bad first ran
  line_ends run.ReadFault goes ran = absurd
      (no_read (k + 1) new.line (judged (k + 1) new.line) b o.new.contents mid at ran)
  line_ends (run.Cut put) goes ran = line_cut put ran
  line_ends run.NoMemory goes ran = inr (line_paused ran)

-- ---- one event

-- a request that asks for something may allocate
pub asks_request : (request : Request) → (request ≡ Nothing → ⊥) → AsksFor request
asks_request Nothing some = some refl
asks_request _ some = tt

may_run_out_read : (text : List ℕ) (read : Result Request LineFault) → (read ≡ Ok Nothing → ⊥)
    → ((f : LineFault) → IsEarly f → read ≡ Err f → ⊥)
    → words_may_allocate (words (content text)) ≡ true → MayRunOut text (as_bad read)
may_run_out_read text (Ok request) some late takes =
    asks_request request (λ e. some (ap (λ (r : Request). Ok r) e))
may_run_out_read text (Err f) some late takes = (λ early. late f early refl, takes)

-- a line may run out of memory where it is not blank, has no early fault and begins with a command
-- that may allocate
pub may_run_out_line : (n : ℕ) (text : List ℕ) → n ≤ MOST_LINES → (reading text ≡ Ok Nothing → ⊥)
    → ((f : LineFault) → IsEarly f → reading text ≡ Err f → ⊥)
    → (words_may_allocate (words (content text)) ≡ false → ⊥) → MayRunOut text (judged n text)
may_run_out_line n text few some late takes =
    let a : nat_lt MOST_LINES n
    ≡ false = grind (arith, nat_tests) in
    rw a (may_run_out_read text (reading text) some late
    (true_from_ne_false (words_may_allocate (words (content text))) takes))

-- an event whose line has no bytes
pub quiet_event : (n : ℕ) (request : Request) (out : Option (List ℕ)) (empty made : List ℕ)
    (from at : Known) → empty ≡ [] → true ≡ (length made == 0)
    → IfSome from (λ p. made ≡ empty ++ transcript_line digests n request p)
    → at ≡ option_map (after digests request) from → EventDone n request out out from at
quiet_event n request out empty made None at none short written stepped =
    record { written = tt; at = stepped }
quiet_event n request out empty made (Some p) at none short written stepped =
    let line = transcript_line digests n request p in
    let nothing : line ≡ [] = no_line line made (written ∙ ap (λ b. b ++ line) none) short in
    record { written = rw nothing (Appends-nil out); at = stepped }

-- a line ended as its event did
pub line_of_event : (end : RunEnd ScriptFault) (n : ℕ) (text : List ℕ) (request : Request)
    (a b : Option (List ℕ)) (from at : Known) → n ≤ MOST_LINES → reading text ≡ Ok request
    → LineRan end n text (Ok request) a b from at
    → LineRan end n text (judged n text) a b from at
line_of_event end n text request a b from at few h ran =
    subst (λ (line : Result Request BadLine). LineRan end n text line a b from at)
    (sym (judged_good n text request few h)) ran

-- a line with a fault
pub line_faulty : (n : ℕ) (text : List ℕ) (f : LineFault) → n ≤ MOST_LINES → reading text ≡ Err f
    → judged n text ≡ Err (Faulty f)
line_faulty n text f few h =
    let a : nat_lt MOST_LINES n ≡ false = grind (arith, nat_tests) in rw (a, h) refl
