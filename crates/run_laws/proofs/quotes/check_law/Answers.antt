use Rattle.run_laws.proofs.HistoryLemmas.{says_where_held}
use Rattle.run_laws.proofs.quotes.check_law.Goals as goal

pub returns : goal.returns
returns c = record {
  says = λ commands keys s nonce bytes is. says_where_held commands keys s nonce bytes is;
}
