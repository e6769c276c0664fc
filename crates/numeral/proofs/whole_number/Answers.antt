-- `whole_number` meets its contract.
use Rattle.std.proofs.Common.{◌≡◌, rules, MatchResult, Ok, Err}
use Rattle.numeral.specs.declared.NumberError.TheVariants.{TooLarge}
use Rattle.numeral.proofs.Figures.{whole_read}
use Rattle.numeral.proofs.whole_number.Goals as goal

pub returns : goal.returns
returns c =
    let m : MatchResult c.parse.result (λ n. c.map_err.result ≡ Ok n) (λ e. c.map_err.result ≡ Err TooLarge) = search rules in
    whole_read c.args.text.now _ _ _ (rw c.unsigned.ensures at c.in_ok-number.ensures) c.parse.ensures.value.0 m
