-- The programs `to_new` and `to_old`: a bare town file on standard input, and the converted file on standard output, or `refused 25 line 9`.
use Rattle.std.specs.Prelude.{ℕ, ◌≤◌, ◌≡◌, Bool, not, List, ◌↔◌, length, get_or, replicate}
use Rattle.townfile.specs.Grammar.{Bytes, Town, Describes}
use Rattle.townfile.specs.FirstFault.{Reading, refused_at, accepted}
use Rattle.formatting.specs.Texts.{answer_text}
use Rattle.conversion.specs.Conversion.{converted, convert_answer, NoHoldLost}

-- The output has room for every result.
abbrev pub room : List ℕ
room = replicate 65536 0

abbrev pub result_if : Reading ℕ → List ℕ → Reading (List ℕ)
result_if (refused_at number line) result = refused_at number line
result_if (accepted reply) result = accepted result

unfoldable pub conversion_for : (wanted : Bool) → List ℕ → Reading (List ℕ)
conversion_for wanted input = result_if (convert_answer wanted input room) (converted wanted input)

unfoldable pub conversion_text : (wanted : Bool) → List ℕ → List ℕ
conversion_text wanted input = answer_text (λ result. result) (conversion_for wanted input)

-- ---- What is proved of it

-- A result is printed exactly of a file that describes a town in the other form and loses no hold, where the result is no longer than a file may be.
abbrev pub PrintsResult : Type 0
PrintsResult = (wanted : Bool) (input : List ℕ) → Bytes input → (result : List ℕ) →
    (conversion_for wanted input ≡ accepted result)
    ↔ (((T : Town) × Describes input (not wanted) T × NoHoldLost wanted T) × (result ≡ converted wanted input) × (length result ≤ 65536))

-- It describes the same town in the wanted form.
abbrev pub PrintedDescribesSame : Type 0
PrintedDescribesSame = (wanted : Bool) (input : List ℕ) → Bytes input → (T : Town) → Describes input (not wanted) T → (result : List ℕ) →
    conversion_for wanted input ≡ accepted result → Describes result wanted T

-- No result begins with an `r`, as a refusal does.
abbrev pub ResultIsNoRefusal : Type 0
ResultIsNoRefusal = (wanted : Bool) (input : List ℕ) → Bytes input → (result : List ℕ) → conversion_for wanted input ≡ accepted result → get_or result 0 0 ≡ 114 → ⊥
