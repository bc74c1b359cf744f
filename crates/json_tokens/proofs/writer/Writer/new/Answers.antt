use Rattle.json_tokens.proofs.Common.{[], rules, refl, ap, drop_all, All-nil, tokens, lex, punctuate, print_from, ArePrintable, IsSmallToken}
use Rattle.json_tokens.proofs.writer.Writer.new.Goals as goal

pub invariant_of-result : goal.invariant_of-result
unfolding print_from ArePrintable
invariant_of-result c =
    record {
      within = search rules;
      printed = [];
      printable = tt;
      small = All-nil IsSmallToken;
      text = drop_all c.len-start.result c.args.out.items (search rules);
      place = refl;
    }

pub returns-clause-tokens : goal.returns-clause-tokens
unfolding lex punctuate
returns-clause-tokens c = ap tokens (drop_all c.len-start.result c.args.out.items (search rules))
