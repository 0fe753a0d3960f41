use Rattle.std.proofs.Common.{◌≡◌, ◌∙◌, ℕ, [], ap, refl, lit<, lit≤}
use Rattle.dnsv_names.specs.Name.{Labels, IsName, same_name}
use Rattle.dnsv_tsig.specs.Answer.{hmac_sha256_name}
use Rattle.dnsv_tsig.proofs.opened.is_hmac_sha256.Goals as goal

-- the supported algorithm's name is a name
is_name : IsName hmac_sha256_name
is_name = record {
  each = (
    record {
      not_empty = lit< tt;
      at_most_63 = lit≤ tt;
      octets = (lit< tt, (lit< tt, (lit< tt, (lit< tt, (lit< tt, (lit< tt, (lit< tt, (lit< tt, (lit< tt, (lit< tt, (lit< tt, tt)))))))))));
    },
    tt,
  );
  at_most_255 = lit≤ tt;
}

pub returns-in_default : goal.returns-in_default
returns-in_default c = absurd (c.in_default.not-Some _ (c.read.ensures.every hmac_sha256_name [] is_name refl))

pub returns : goal.returns
returns c =
    let every = c.read.ensures.every hmac_sha256_name [] is_name refl in
    let pair : ◌≡◌ {A = Labels × ℕ} (c.in-Some.supported, c.in-Some.field-0-1) (hmac_sha256_name, 13) = cc in
    c.eq.ensures.value ∙ ap (λ p. same_name c.args.algorithm.now p.0) pair
