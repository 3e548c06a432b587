use Rattle.lines.proofs.Reading.{last_from_whole}
use Rattle.lines.proofs.fields.last_field.Goals as goal

pub returns : goal.returns
returns g c =
    let n = g.N.FromDigits in
    record { is = last_from_whole n.end n.value c.args.text.now c.number.result c.number.ensures.is }
