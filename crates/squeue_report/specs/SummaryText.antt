-- The one line that sums up a generated run.
use Rattle.std.specs.Prelude.{ℕ, ◌+◌, ◌*◌, ◌%◌, ◌^◌, List, [], ◌∷◌, length, fold, sum_by, get_or, codes}
use Rattle.std.specs.List.{range_with_len}
use Rattle.std.specs.Fmt.{decimal}
use Rattle.byteorder.specs.Endian.{big_bytes}
use Rattle.hex.specs.Hex.{encode_lower}
use Rattle.perimeter_core.specs.declared.entries.Act.{Act}
use Rattle.segment_codec.specs.declared.packet.Reply.{Reply}
use Rattle.conn_classifier.specs.Plan.{PlanOf}
use Rattle.conn_blocks.specs.CallLists.{CallLists}
use Rattle.conn_blocks.specs.ServeOrder.{serve}
use Rattle.report_lines.specs.ReportText.{line, report_text}

-- each byte in turn, at the multiplier of the 64-bit FNV hash, from 0
unfoldable pub check_of : List ℕ → ℕ
check_of bytes = fold (λ h b. (h * 1099511628211 + b) % 2 ^ 64) 0 bytes

-- the same behind other bytes, from their value
unfoldable pub check_behind : ℕ → List ℕ → ℕ
check_behind check bytes = fold (λ h b. (h * 1099511628211 + b) % 2 ^ 64) check bytes

-- the replies of connection c
abbrev pub replies_in : PlanOf → CallLists → List (List Act) → ℕ → List Reply
replies_in p calls orders c = (serve p calls c (get_or orders c [])).block.replies

-- how many replies there are, and how many bytes of text in them
unfoldable pub reply_count : PlanOf → CallLists → List (List Act) → ℕ
reply_count p calls orders = sum_by (λ c. length (replies_in p calls orders c)) (range_with_len 0 (length p.tuples))

abbrev pub text_size : List Reply → ℕ
text_size replies = sum_by (λ r. length r.text) replies

unfoldable pub octet_count : PlanOf → CallLists → List (List Act) → ℕ
octet_count p calls orders = sum_by (λ c. text_size (replies_in p calls orders c)) (range_with_len 0 (length p.tuples))

-- sixteen hexadecimal digits
abbrev pub digits_of : ℕ → List ℕ
digits_of check = encode_lower (big_bytes 8 check)

-- the line of these numbers, and of the check value's digits
unfoldable pub summary_line : ℕ → ℕ → ℕ → ℕ → ℕ → ℕ → List ℕ → List ℕ
summary_line number bytes records conns replies octets check = line (
    codes "generated" ∷ decimal number ∷ codes "bytes" ∷ decimal bytes ∷ codes "records" ∷ decimal records ∷ codes "connections" ∷ decimal conns
    ∷ codes "replies" ∷ decimal replies ∷ codes "octets" ∷ decimal octets ∷ codes "check" ∷ check ∷ [])

-- the run over the input that was generated for a number
unfoldable pub summary_text : ℕ → List ℕ → PlanOf → CallLists → List (List Act) → List ℕ
summary_text number input p calls orders =
    summary_line number (length input) p.counts.records (length p.tuples) (reply_count p calls orders) (octet_count p calls orders)
    (digits_of (check_of (report_text p calls orders)))
