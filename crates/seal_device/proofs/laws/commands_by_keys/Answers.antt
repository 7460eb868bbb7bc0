use Rattle.seal_device.proofs.Serials.{keys_stay, serial_stays, serial_stands, words_stay}
use Rattle.seal_device.proofs.laws.commands_by_keys.Goals as goal

pub returns-clause-stay : goal.returns-clause-stay
returns-clause-stay g c = λ R command d keys is. keys_stay R command d keys is

pub returns-clause-serial : goal.returns-clause-serial
returns-clause-serial g c = λ R command d low. serial_stays R command d low

pub returns-clause-words : goal.returns-clause-words
returns-clause-words g c = λ R command d other. words_stay R command d other

pub returns-clause-serials : goal.returns-clause-serials
returns-clause-serials g c = λ R command d other. serial_stands R command d other
