use Rattle.std.proofs.Common.{[], length, sym, ap, ◌∙◌, append-nil, arith}
use Rattle.std.proofs.lemmas.List.Edits.{length-between}
use Rattle.std.proofs.KnownBytes.{Consumes-nil}
use Rattle.script_text.specs.Reader.{Held}
use Rattle.script_text.proofs.reader.LineReader.any.Goals as goal

pub returns-then-self-clause-any : goal.returns-then-self-clause-any
returns-then-self-clause-any g c =
    let r = c.self.inside in
    let held = ap (λ (h : Held). h.bytes) (c.self.view_is ∙ c.forget_line.ensures) in
    record {
      taken = [];
      consumed = Consumes-nil _;
      after = (
        λ none. absurd
            (omega (arith, length-between r.buffer.items r.start r.end c.self.invariant.within, ap length (held ∙ sym (append-nil _) ∙ none))),
        ap (λ (h : Held). h.bytes) c.forget_line.ensures ∙ sym (append-nil _),
        ap (λ (h : Held). h.line) c.forget_line.ensures,
      );
    }
