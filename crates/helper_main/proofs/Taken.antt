-- What a script is that is taken.
use Rattle.std.proofs.Common.{◌≡◌, true}
use Rattle.session_script.specs.Asked.{Asked}
use Rattle.headline.specs.History.{are_free}
use Rattle.helper_main.specs.Works.{takes}

pub taken-free : (a : Asked) → takes a ≡ true → are_free a.circuits ≡ true
unfolding takes
taken-free a e = e
