use Rattle.std.proofs.Common.{◌≡◌, ◌≤◌, ◌⊎◌, [], ◌∷◌, filter, count_by, rules, IfOk, IfErr, ◌∙◌}
use Rattle.captures.proofs.Firsts.{kept, only_found}
use Rattle.captures.proofs.first_line.only_character.Goals as goal

pub returns : goal.returns
returns c =
    let line = c.args.line.now in
    let one : IfOk c.exactly_one.result (λ character. filter kept line ≡ character ∷ []) = search rules in
    let other : IfErr c.exactly_one.result (λ _. (filter kept line ≡ []) ⊎ (2 ≤ count_by kept line)) = search rules in
    c.ok.ensures.value ∙ only_found c.exactly_one.result line one other
