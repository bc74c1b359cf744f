use Rattle.json_tokens.proofs.Common.{arith, zip2_of_maps, zip2_splat}
use lib.Bits.{bit_or}
use Rattle.json_tokens.proofs.ScanLemmas.{hit, below, stop_bits}
use Rattle.json_tokens.proofs.scan.stops.Goals as goal

pub returns : goal.returns
returns c =
    let v = c.args.letters in
    let long = c.fits-letters.0 in
    stop_bits v _ (omega arith)
    (zip2_of_maps bit_or _ _ v (zip2_of_maps bit_or _ _ v (zip2_splat hit v 16 34 long) (zip2_splat hit v 16 92 long)) (zip2_splat below v 16 32 long))
