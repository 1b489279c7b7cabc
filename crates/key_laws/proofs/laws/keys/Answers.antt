use Rattle.key_laws.proofs.RotationKeys.{rotation_keys_are_keys}
use Rattle.key_laws.proofs.RelinKeys.{relin_keys_are_keys}
use Rattle.key_laws.proofs.laws.keys.Goals as goal

pub returns-clause-rotations : goal.returns-clause-rotations
returns-clause-rotations c = rotation_keys_are_keys

pub returns-clause-relinearisation : goal.returns-clause-relinearisation
returns-clause-relinearisation c = relin_keys_are_keys
