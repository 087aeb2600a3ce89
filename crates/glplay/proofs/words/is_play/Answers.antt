use Rattle.std.proofs.Common.{◌≡◌, length, arith}
use Rattle.glplay.proofs.WordLemmas.{play_or_not}
use Rattle.glplay.proofs.words.is_play.Goals as goal

pub returns-in-len1 : goal.returns-in-len1
returns-in-len1 c =
    let one : length c.args.words.now ≡ 1 = omega arith in
    play_or_not c.args.words.now c.only-item.result c.as_str.result.now c.eq.result one c.only-item.is c.as_str.ensures.value c.eq.ensures
