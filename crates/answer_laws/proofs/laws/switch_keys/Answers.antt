use Rattle.answer_laws.proofs.SwitchKeys.{rotation_keys_belong, relin_keys_belong}
use Rattle.answer_laws.proofs.HeldKeys.{held_keys_serve}
use Rattle.answer_laws.proofs.laws.switch_keys.Goals as goal

pub returns-clause-rotations : goal.returns-clause-rotations
returns-clause-rotations c = rotation_keys_belong

pub returns-clause-relinearisation : goal.returns-clause-relinearisation
returns-clause-relinearisation c = relin_keys_belong

pub returns-clause-held : goal.returns-clause-held
returns-clause-held c = held_keys_serve
