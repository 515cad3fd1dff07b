-- The word of a mode names it.
use Rattle.std.proofs.Common.{◌≡◌, refl}
use Rattle.std.specs.Prelude.{Some}
use Rattle.histories.specs.declared.mode.Mode.{Mode}
use Rattle.histories.specs.declared.mode.Mode.TheVariants.{Process, NoDrain, Fill}
use Rattle.histories.specs.ModeWords.{mode_of, mode_word}

pub word_names : (m : Mode) → mode_of (mode_word m) ≡ Some m
unfolding mode_word
word_names Process = refl
word_names NoDrain = refl
word_names Fill = refl
