use Rattle.session_driver.proofs.Permitted.{permitted_open, open_permitted}
use Rattle.session_driver.proofs.laws.permitted_writes_law.Goals as goal

pub returns : goal.returns
returns c = λ memory first at count m place only. (
  λ may address from before. permitted_open memory first m place only at count may address from before,
  λ each. open_permitted memory first m place only at count each,
)
