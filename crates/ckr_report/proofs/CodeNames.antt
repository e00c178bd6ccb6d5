-- The text of a code reads as the code.
use Rattle.std.proofs.Common.{◌≡◌, ◌≤◌, ◌/◌, ◌%◌, Some, arith}
use Rattle.std.proofs.lemmas.Grind.{common_steps}
use Rattle.ckr_base.specs.declared.code.Code.{Code}
use Rattle.ckr_base.specs.declared.code.Code.TheVariants.{System, User}
use Rattle.ckr_base.specs.CodeText.{code_of, code_text, number_of}
use Rattle.ckr_base.proofs.Codes.{digit_value-digit_of, is_hex_digit-digit_of, is_digit-digit_of}

pub code_of-code_text : (code : Code) → number_of code ≤ 4095 → code_of (code_text code) ≡ Some code
code_of-code_text (System number) small = grind (arith, common_steps, digit_value-digit_of (number / 256), digit_value-digit_of (number / 16 % 16), digit_value-digit_of (number % 16), is_hex_digit-digit_of (number / 256), is_hex_digit-digit_of (number / 16 % 16), is_hex_digit-digit_of (number % 16))
code_of-code_text (User number) small = grind (arith, common_steps, digit_value-digit_of (number / 1000), digit_value-digit_of (number / 100 % 10), digit_value-digit_of (number / 10 % 10), digit_value-digit_of (number % 10), is_digit-digit_of (number / 1000), is_digit-digit_of (number / 100 % 10), is_digit-digit_of (number / 10 % 10), is_digit-digit_of (number % 10))
