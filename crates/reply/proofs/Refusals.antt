-- What the exit of a `?` answers: the refusal that the callee answered.
use Rattle.std.proofs.Common.{◌≡◌, ap, ◌∙◌, Result, Err}
use Rattle.std.specs.Result.{IsErr, IsErrAnd}
use Rattle.std.proofs.lemmas.Result.{err_from_is_err_and}
use Rattle.reply.specs.declared.Refusal.{Refusal}

pub passed_on : {A : Type 0} (r : Result A Refusal) (e : Refusal) → IsErr r × IsErrAnd r (λ y. y ≡ e) → r ≡ Err e
passed_on r e h =
    let p = err_from_is_err_and r h.1 in
    p.1 ∙ ap (λ (x : Refusal). Err x) p.2
