-- The table of ln: entry i is the double nearest ln (1 + i / 128).
use Rattle.std.specs.Prelude.{List, [], ◌∷◌, ℕ}

-- "The steps of exp and ln, written down once": the bit patterns of the entries
unfoldable pub log_table : List ℕ
log_table =
    0x0 ∷ 0x3f7f_e02a_6b10_6789 ∷ 0x3f8f_c0a8_b0fc_03e4 ∷ 0x3f97_b91b_07d5_b11b ∷ 0x3f9f_829b_0e78_3300 ∷ 0x3fa3_9e87_b9fe_bd60 ∷ 0x3fa7_7458_f632_dcfc ∷ 0x3fab_42dd_7119_71bf ∷
    0x3faf_0a30_c011_62a6 ∷ 0x3fb1_6536_eea3_7ae1 ∷ 0x3fb3_41d7_961b_d1d1 ∷ 0x3fb5_1b07_3f06_183f ∷ 0x3fb6_f0d2_8ae5_6b4c ∷ 0x3fb8_c345_d631_9b21 ∷ 0x3fba_926d_3a4a_d563 ∷ 0x3fbc_5e54_8f5b_c743 ∷
    0x3fbe_2707_6e2a_f2e6 ∷ 0x3fbf_ec91_31db_eabb ∷ 0x3fc0_d77e_7cd0_8e59 ∷ 0x3fc1_b72a_d52f_67a0 ∷ 0x3fc2_9552_f81f_f523 ∷ 0x3fc3_71fc_201e_8f74 ∷ 0x3fc4_4d2b_6ccb_7d1e ∷ 0x3fc5_26e5_e3a1_b438 ∷
    0x3fc5_ff30_70a7_93d4 ∷ 0x3fc6_d60f_e719_d21d ∷ 0x3fc7_ab89_0210_d909 ∷ 0x3fc8_7fa0_6520_c911 ∷ 0x3fc9_525a_9cf4_56b4 ∷ 0x3fca_23bc_1fe2_b563 ∷ 0x3fca_f3c9_4e80_bff3 ∷ 0x3fcb_c286_742d_8cd6 ∷
    0x3fcc_8ff7_c79a_9a22 ∷ 0x3fcd_5c21_6b4f_bb91 ∷ 0x3fce_2707_6e2a_f2e6 ∷ 0x3fce_f0ad_cbdc_5936 ∷ 0x3fcf_b918_6d5e_3e2b ∷ 0x3fd0_4025_94b4_d041 ∷ 0x3fd0_a324_e273_90e3 ∷ 0x3fd1_058b_f9ae_4ad5 ∷
    0x3fd1_675c_abab_a60e ∷ 0x3fd1_c898_c169_99fb ∷ 0x3fd2_2941_fbcf_7966 ∷ 0x3fd2_895a_13de_86a3 ∷ 0x3fd2_e8e2_bae1_1d31 ∷ 0x3fd3_47dd_9a98_7d55 ∷ 0x3fd3_a64c_5569_45ea ∷ 0x3fd4_0430_8686_a7e4 ∷
    0x3fd4_618b_c21c_5ec2 ∷ 0x3fd4_be5f_9577_78a1 ∷ 0x3fd5_1aad_872d_f82d ∷ 0x3fd5_7677_1745_5a6c ∷ 0x3fd5_d1bd_bf58_09ca ∷ 0x3fd6_2c82_f2b9_c795 ∷ 0x3fd6_86c8_1e9b_14af ∷ 0x3fd6_e08e_aa2b_a1e4 ∷
    0x3fd7_39d7_f6bb_d007 ∷ 0x3fd7_92a5_5fdd_47a2 ∷ 0x3fd7_eaf8_3b82_afc3 ∷ 0x3fd8_42d1_da1e_8b17 ∷ 0x3fd8_9a33_86c1_425b ∷ 0x3fd8_f11e_8736_62c7 ∷ 0x3fd9_4794_1c21_16fb ∷ 0x3fd9_9d95_8117_e08b ∷
    0x3fd9_f323_ecbf_984c ∷ 0x3fda_4840_90e5_bb0a ∷ 0x3fda_9cec_9a9a_084a ∷ 0x3fda_f129_3247_786b ∷ 0x3fdb_44f7_7bcc_8f63 ∷ 0x3fdb_9858_9693_10fb ∷ 0x3fdb_eb4d_9da7_1b7c ∷ 0x3fdc_3dd7_a7cd_ad4d ∷
    0x3fdc_8ff7_c79a_9a22 ∷ 0x3fdc_e1af_0b85_f3eb ∷ 0x3fdd_32fe_7e00_ebd5 ∷ 0x3fdd_83e7_258a_2f3e ∷ 0x3fdd_d46a_04c1_c4a1 ∷ 0x3fde_2488_1a7c_6c26 ∷ 0x3fde_7442_61d6_8788 ∷ 0x3fde_c399_d246_8cc0 ∷
    0x3fdf_128f_5faf_06ed ∷ 0x3fdf_6123_fa70_28ac ∷ 0x3fdf_af58_8f78_f31f ∷ 0x3fdf_fd2e_0857_f498 ∷ 0x3fe0_2552_a5a5_d0ff ∷ 0x3fe0_4bdf_9da9_26d2 ∷ 0x3fe0_723e_5c1c_df40 ∷ 0x3fe0_986f_4f57_3521 ∷
    0x3fe0_be72_e425_2a83 ∷ 0x3fe0_e449_85d1_cc8c ∷ 0x3fe1_09f3_9e2d_4c97 ∷ 0x3fe1_2f71_9593_efbc ∷ 0x3fe1_54c3_d2f4_d5ea ∷ 0x3fe1_79ea_bbd8_99a1 ∷ 0x3fe1_9ee6_b467_c96f ∷ 0x3fe1_c3b8_1f71_3c25 ∷
    0x3fe1_e85f_5e70_40d0 ∷ 0x3fe2_0cdc_d192_ab6e ∷ 0x3fe2_3130_d7be_bf43 ∷ 0x3fe2_555b_ce98_f7cb ∷ 0x3fe2_795e_1289_b11b ∷ 0x3fe2_9d37_fec2_b08b ∷ 0x3fe2_c0e9_ed44_8e8c ∷ 0x3fe2_e474_36e4_0268 ∷
    0x3fe3_07d7_334f_10be ∷ 0x3fe3_2b13_3912_1d71 ∷ 0x3fe3_4e28_9d9c_e1d3 ∷ 0x3fe3_7117_b547_47b6 ∷ 0x3fe3_93e0_d356_2a1a ∷ 0x3fe3_b684_49ff_fc23 ∷ 0x3fe3_d902_6a71_56fb ∷ 0x3fe3_fb5b_84d1_6f42 ∷
    0x3fe4_1d8f_e846_72ae ∷ 0x3fe4_3f9f_e2f9_ce67 ∷ 0x3fe4_618b_c21c_5ec2 ∷ 0x3fe4_8353_d1ea_88df ∷ 0x3fe4_a4f8_5db0_3ebb ∷ 0x3fe4_c679_afcc_ee3a ∷ 0x3fe4_e7d8_11b7_5bb1 ∷ 0x3fe5_0913_cc01_686b ∷
    0x3fe5_2a2d_265b_c5ab ∷ 0x3fe5_4b24_6799_9498 ∷ 0x3fe5_6bf9_d5b3_f399 ∷ 0x3fe5_8cad_b5cd_7989 ∷ 0x3fe5_ad40_4c35_9f2d ∷ 0x3fe5_cdb1_dc6c_1765 ∷ 0x3fe5_ee02_a924_1675 ∷ 0x3fe6_0e32_f447_88d9 ∷
    []
