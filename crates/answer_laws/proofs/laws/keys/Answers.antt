use Rattle.answer_laws.proofs.Belongs.{keys_belong, held_keys_belong}
use Rattle.answer_laws.proofs.laws.keys.Goals as goal

pub returns-clause-made : goal.returns-clause-made
returns-clause-made c = keys_belong

pub returns-clause-held : goal.returns-clause-held
returns-clause-held c = held_keys_belong
