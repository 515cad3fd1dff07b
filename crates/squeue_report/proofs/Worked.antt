-- Worked examples: check values.
use Rattle.std.proofs.Common.{◌≡◌, [], ◌∷◌, codes, refl}
use Rattle.hex.specs.Hex.{encode_with}
use Rattle.squeue_report.specs.SummaryText.{check_of, digits_of}

nothing : digits_of (check_of []) ≡ codes "0000000000000000"
unfolding check_of encode_with
nothing = refl

-- 1 at the multiplier, and 255
two_bytes : check_of (1 ∷ 255 ∷ []) ≡ 1099511628466
unfolding check_of
two_bytes = refl
