-- `natural` meets its contract.
use Rattle.std.proofs.Common.{◌≡◌, rules, MatchResult, Ok, Err}
use Rattle.numeral.specs.declared.NumberError.TheVariants.{TooLarge}
use Rattle.numeral.proofs.Figures.{natural_read}
use Rattle.numeral.proofs.natural.Goals as goal

pub returns : goal.returns
returns c =
    let m : MatchResult c.parse.result (λ n. c.map_err.result ≡ Ok n) (λ e. c.map_err.result ≡ Err TooLarge) = search rules in
    natural_read c.args.text.now _ _ _ c.in_ok-figures.ensures c.parse.ensures.value.0 m
